use Rattle.std.proofs.lemmas.Result.{IfOk-from_err}
use Rattle.std.proofs.Common.{◌≡◌, length, refl}
use Rattle.std.proofs.lemmas.Option.{slice_get_read}
use Rattle.std.specs.Prelude.{slice_get, Some}
use Rattle.codegen.proofs.run.procedure.State.enter.Goals as goal

pub returns : goal.returns
returns c =
    let k = c.args.position in
    let succs = c.block_succs.result.now in
    let succ = c.in-Some.succ.now in
    let at : slice_get succs k ≡ Some succ = slice_get_read succs (length succs) k succ refl c.in-Some.ensures.lookup.3.0 c.in-Some.ensures.lookup.1 in
    let there = rw (c.block_succs.ensures, c.new-block.ensures) at at in
    let passed = rw (c.params_of.ensures, c.arguments_for-arguments.ensures, c.new-block.ensures) at c.in_ok-pass.ensures in
    rw (there, c.first_line-self.ensures, passed, c.index-succ.ensures) refl

pub returns-in_err-pass : goal.returns-in_err-pass
returns-in_err-pass c = IfOk-from_err c.from_residual.result _ c.from_residual.ensures.0
