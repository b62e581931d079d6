use Rattle.std.proofs.Common.{◌≡◌, ◌*◌, map, take}
use Rattle.std.specs.List.{flat_map}
use Rattle.std.specs.Prelude.{All}
use Rattle.regalloc2_serialize.specs.Flat.Flat.{words_of_triple}
use Rattle.regalloc2_c.proofs.Parts.{IsNamed, numbers_of}
use Rattle.regalloc2_c.proofs.judging.moves_from.Given as goal

abbrev pub invariant-loop-k : goal.invariant-loop-k
invariant-loop-k l = record {
  words : flat_map words_of_triple (map numbers_of l.moves.items) ≡ take (3 * l.k) l.words;
  names : All IsNamed l.moves.items;
}
