use Rattle.std.proofs.lemmas.Result.{IfOk-from_err}
use Rattle.std.proofs.Common.{◌≡◌, refl, ap, ◌∙◌, arith}
use Rattle.codegen_machine.specs.Frames.{module_begun}
use Rattle.codegen_machine.specs.Modules.{procedures_of}
use Rattle.codegen.specs.Run.Runs.{arguments_of, module_outcome, run_outcome}
use Rattle.codegen.specs.Run.States.{frames_state}
use Rattle.codegen.specs.declared.run.standing.Standing.TheVariants as stand
use Rattle.codegen.proofs.RunLemmas.Modules.{module_ends, module_more, module_none}
use Rattle.codegen.proofs.run.module.run_module.Goals as goal

pub loop-step-init : goal.loop-step-init
loop-step-init c =
    let ps = procedures_of c.args.m.now.procedures.items in
    module_none ps (λ v. 0) (module_begun ps (λ v. 0) (arguments_of c.args.arguments.now) c.args.memory.items) (frames_state c.in_ok-frames.frames)
    c.in_ok-frames.ensures

pub returns-in_default : goal.returns-in_default
returns-in_default c =
    let ps = procedures_of c.args.m.now.procedures.items in
    let new = frames_state c.step.new.self in (
      new,
      refl,
      module_ends ps (λ v. 0) (module_begun ps (λ v. 0) (arguments_of c.args.arguments.now) c.args.memory.items) c.loop-step._step c.args.steps
          c.in_ok-standing.standing (frames_state c.loop-step.frames) new new.state.memory c.loop-step-test.true c.loop-step.invariant c.in_ok-standing.ensures
          c.in_default.not-Running,
    )

pub loop-step-preserved : goal.loop-step-preserved
loop-step-preserved c =
    let ps = procedures_of c.args.m.now.procedures.items in
    let new = frames_state c.step.new.self in
    module_more ps (λ v. 0) (module_begun ps (λ v. 0) (arguments_of c.args.arguments.now) c.args.memory.items) c.loop-step._step stand.Running
    (frames_state c.loop-step.frames) new new.state.memory c.loop-step.invariant
    (c.in_ok-standing.ensures ∙ ap (λ r. run_outcome r new new.state.memory) c.in-Running.is)

pub returns : goal.returns
returns c =
    let all : c.args.steps ≡ c.loop-step._step = omega (arith, c.loop-step-test.false) in (
      frames_state c.loop-step.frames,
      refl,
      ap (λ n. module_outcome c.args.m.now c.args.arguments.now c.args.memory.items n) all ∙ c.loop-step.invariant,
    )

pub returns-in_err-frames : goal.returns-in_err-frames
returns-in_err-frames c = IfOk-from_err c.from_residual.result _ c.from_residual.ensures.0

pub returns-in_err-standing : goal.returns-in_err-standing
returns-in_err-standing c = IfOk-from_err c.from_residual-in_err-standing.result _ c.from_residual-in_err-standing.ensures.0
