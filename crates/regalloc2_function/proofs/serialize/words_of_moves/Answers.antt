use Rattle.std.proofs.lemmas.Result.{IfOk-from_err}
use Rattle.std.proofs.Common.{◌≡◌, ℕ, refl, arith}
use Rattle.std.proofs.lemmas.List.{take_all}
use Rattle.std.proofs.lemmas.List.Elements.{All-push}
use Rattle.regalloc2_function.specs.Views.{edit_of}
use Rattle.regalloc2_function.specs.Stored.{NamesMove, stored_move}
use Rattle.regalloc2_function.proofs.Copies.{map-more}
use Rattle.regalloc2_function.proofs.serialize.words_of_moves.Goals as goal

pub loop-edit-preserved : goal.loop-edit-preserved
loop-edit-preserved g c =
    let done = c.loop-edit.words.items in
    let one : ℕ × ℕ × ℕ = (c.to_index.result, c.bits.result, c.bits-in-loop-edit.result) in
    let edit = c.edit-item.result in
    let same : stored_move one ≡ edit_of edit =
    rw (c.to_index.ensures.index, c.bits.ensures.place, c.bits-in-loop-edit.ensures.place, c.places-from.ensures.from, c.places-from.ensures.to) refl in
    record {
      same = rw c.in_ok-push.ensures.items (map-more stored_move edit_of done c.args.edits.now c.loop-edit.edit-index one edit
          c.loop-edit-test.true c.edit-item.is same c.loop-edit.invariant.same);
      names = rw c.in_ok-push.ensures.items (All-push NamesMove done one c.loop-edit.invariant.names
          (rw c.to_index.ensures.index c.to_index.ensures.point, c.bits.ensures.word, c.bits-in-loop-edit.ensures.word));
    }

pub returns-clause-moves : goal.returns-clause-moves
returns-clause-moves g c =
    rw (take_all c.loop-edit.edit-index c.args.edits.now (omega (arith, c.loop-edit-test.false))) at c.loop-edit.invariant.same

pub returns-clause-names : goal.returns-clause-names
returns-clause-names g c = c.loop-edit.invariant.names

pub returns-in_err-words : goal.returns-in_err-words
returns-in_err-words g c = record {
  moves = IfOk-from_err c.from_residual.result _ c.from_residual.ensures.0;
  names = IfOk-from_err c.from_residual.result _ c.from_residual.ensures.0;
}

pub returns-in_err-push : goal.returns-in_err-push
returns-in_err-push g c = record {
  moves = IfOk-from_err c.from_residual-in_err-push.result _ c.from_residual-in_err-push.ensures.0;
  names = IfOk-from_err c.from_residual-in_err-push.result _ c.from_residual-in_err-push.ensures.0;
}
