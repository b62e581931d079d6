use Rattle.std.proofs.lemmas.Result.{IfOk-from_err}
use Rattle.std.proofs.Common.{◌≡◌, List, length, refl, subst}
use Rattle.std.proofs.lemmas.Option.{slice_get_read}
use Rattle.std.specs.Prelude.{slice_get, Some}
use Rattle.codegen.specs.Run.States.{call_value, frames_of, frames_state, numbers_by_vreg}
use Rattle.codegen_machine.specs.declared.module.NamedProcedure.{NamedProcedure}
use Rattle.codegen.proofs.RunLemmas.Modules.{called_is}
use Rattle.codegen.proofs.run.module.Frames.call.Goals as goal

pub returns : goal.returns
returns c =
    let ps = c.args.m.now.procedures.items in
    let p = c.in-Some.callee.now in
    let g = c.args.calling.function in
    let at : slice_get ps g ≡ Some p = subst (λ (xs : List NamedProcedure). slice_get xs g ≡ Some p) c.deref.ensures.value
    (slice_get_read c.deref.result.now (length c.deref.result.now) g p refl c.in-Some.ensures.lookup.3.0 c.in-Some.ensures.lookup.1) in
    called_is ps p (frames_state c.args.self.now) (call_value c.args.calling) c.replace.new.dest.items c.first_line-self.result
    (numbers_by_vreg c.replace-2.new.dest) (frames_of c.push.new.frames.items) at
    (rw c.replace.ensures.after c.in_ok-arguments.ensures) c.first_line-self.ensures (rw c.replace-2.ensures.after c.no_numbers.ensures)
    (rw (c.replace.ensures.value, c.replace-2.ensures.value) at c.in_ok-push.ensures)

pub returns-in_err-arguments : goal.returns-in_err-arguments
returns-in_err-arguments c = IfOk-from_err c.from_residual.result _ c.from_residual.ensures.0

pub returns-in_err-push : goal.returns-in_err-push
returns-in_err-push c = IfOk-from_err c.from_residual-in_err-push.result _ c.from_residual-in_err-push.ensures.0
