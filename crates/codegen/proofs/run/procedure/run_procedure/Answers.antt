use Rattle.std.proofs.lemmas.Result.{IfOk-from_err}
use Rattle.std.proofs.Common.{◌≡◌, refl, sym, ap, ◌∙◌, arith}
use Rattle.codegen_machine.specs.Meaning.{ProcedureState, procedure_run}
use Rattle.codegen_operation.specs.Numbers.{Running}
use Rattle.codegen_machine.specs.Seen.{function_of_procedure, operations}
use Rattle.codegen.specs.Run.Runs.{arguments_of, first_state, run_outcome}
use Rattle.codegen.specs.Run.States.{state_of}
use Rattle.codegen.specs.declared.run.standing.Standing.TheVariants as stand
use Rattle.codegen.proofs.RunLemmas.Stands.{run_none, run_more, run_ends}
use Rattle.codegen.proofs.run.procedure.run_procedure.Goals as goal

pub loop-step-init : goal.loop-step-init
loop-step-init c =
    let p = c.args.procedure.now in
    run_none (function_of_procedure p) (operations p) (arguments_of c.args.arguments.now) (first_state p c.args.memory.items)
    ∙ ap (λ (s : ProcedureState). Running s) (sym c.first-state.ensures)

pub returns-in_default : goal.returns-in_default
returns-in_default c =
    let p = c.args.procedure.now in
    let new = state_of c.step.new.self in (
      new,
      refl,
      run_ends (function_of_procedure p) (operations p) (arguments_of c.args.arguments.now) (first_state p c.args.memory.items) c.loop-step._step c.args.steps
          c.in_ok-standing.standing (state_of c.loop-step.state) new c.loop-step-test.true c.loop-step.invariant c.in_ok-standing.ensures
          c.in_default.not-Running,
    )

pub loop-step-preserved : goal.loop-step-preserved
loop-step-preserved c =
    let p = c.args.procedure.now in
    run_more (function_of_procedure p) (operations p) (arguments_of c.args.arguments.now) (first_state p c.args.memory.items) c.loop-step._step stand.Running
    (state_of c.loop-step.state) (state_of c.step.new.self) c.loop-step.invariant
    (c.in_ok-standing.ensures ∙ ap (λ r. run_outcome r (state_of c.step.new.self) (state_of c.step.new.self).memory) c.in-Running.is)

pub returns : goal.returns
returns c =
    let p = c.args.procedure.now in
    let all : c.args.steps ≡ c.loop-step._step = omega (arith, c.loop-step-test.false) in (
      state_of c.loop-step.state,
      refl,
      ap (λ n. procedure_run (function_of_procedure p) (operations p) (arguments_of c.args.arguments.now) n (first_state p c.args.memory.items)) all
          ∙ c.loop-step.invariant,
    )

pub returns-in_err-standing : goal.returns-in_err-standing
returns-in_err-standing c = IfOk-from_err c.from_residual.result _ c.from_residual.ensures.0
