use Rattle.std.proofs.lemmas.Result.{IfOk-from_err}
use Rattle.std.proofs.Common.{◌≡◌, ◌+◌, ◌-◌, refl, ap, ◌∙◌, arith}
use Rattle.codegen_operation.specs.Numbers.{further}
use Rattle.codegen_machine.specs.Machine.{code_of, machine_run}
use Rattle.codegen.specs.Run.Runs.{arguments_of, run_outcome}
use Rattle.codegen.specs.Run.States.{machine_state}
use Rattle.codegen.proofs.RunLemmas.Stands.{over_stays, machine_more, machine_none}
use Rattle.codegen.proofs.run.machine.run_code.Goals as goal

pub returns-in_default : goal.returns-in_default
returns-in_default c =
    let code = code_of c.args.code.now in
    let args = arguments_of c.args.arguments.now in
    let left = c.args.steps - c.loop-step._step in
    let new = machine_state c.step-standing.new.self in (
      new,
      refl,
      c.loop-step.invariant.1
          ∙ machine_more code args left c.step-standing.result (machine_state c.loop-step.machine) new (omega (arith, c.loop-step-test.true))
          c.step-standing.ensures.step
          ∙ over_stays c.step-standing.result new new.memory (machine_run code args (left - 1)) c.in_default.not-Running,
    )

pub loop-step-preserved : goal.loop-step-preserved
loop-step-preserved c =
    let code = code_of c.args.code.now in
    let args = arguments_of c.args.arguments.now in
    let left = c.args.steps - c.loop-step._step in
    let new = machine_state c.step-standing.new.self in
    let next : left - 1 ≡ c.args.steps - (c.loop-step._step + 1) = omega arith in (
      c.step-standing.ensures.frame ∙ c.loop-step.invariant.0,
      c.loop-step.invariant.1
          ∙ machine_more code args left c.step-standing.result (machine_state c.loop-step.machine) new (omega (arith, c.loop-step-test.true))
          c.step-standing.ensures.step
          ∙ ap (λ r. further (run_outcome r new new.memory) (machine_run code args (left - 1))) c.in-Running.is
          ∙ ap (λ n. machine_run code args n new) next,
    )

pub returns : goal.returns
returns c =
    let code = code_of c.args.code.now in
    let args = arguments_of c.args.arguments.now in
    let none : c.args.steps - c.loop-step._step ≡ 0 = omega (arith, c.loop-step-test.false) in
    let last = machine_state c.loop-step.machine in
    (last, refl, c.loop-step.invariant.1 ∙ ap (λ n. machine_run code args n last) none ∙ machine_none code args last)

pub returns-in_err-machine : goal.returns-in_err-machine
returns-in_err-machine c = IfOk-from_err c.from_residual.result _ c.from_residual.ensures.0
