use Rattle.std.proofs.Common.{◌≡◌, map, take}
use Rattle.regalloc2_function.specs.Views.{edit_of}
use Rattle.regalloc2_function.specs.Stored.{stored_move}
use Rattle.regalloc2_function.proofs.serialize.moves_from.Given as goal

abbrev pub invariant-loop-word : goal.invariant-loop-word
invariant-loop-word g l = map edit_of l.edits.items ≡ map stored_move (take l.word-index l.words)
