use Rattle.std.proofs.Common.{◌≡◌, map, take}
use Rattle.std.specs.Prelude.{All}
use Rattle.regalloc2_function.specs.Views.{edit_of}
use Rattle.regalloc2_function.specs.Stored.{stored_move, NamesMove}
use Rattle.regalloc2_function.proofs.serialize.words_of_moves.Given as goal

abbrev pub invariant-loop-edit : goal.invariant-loop-edit
invariant-loop-edit g l = record {
  same : map stored_move l.words.items ≡ map edit_of (take l.edit-index l.edits);
  names : All NamesMove l.words.items;
}
