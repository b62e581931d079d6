use Rattle.std.proofs.Common.{take}
use Rattle.std.specs.List.{flat_map}
use Rattle.regalloc2_checker.specs.NamedBits.{ArePlacesAdded, places_of_edit}
use Rattle.regalloc2_checker.proofs.names.list_moves.Given as goal

-- the places of the first k moves are listed
abbrev pub invariant-loop-k : goal.invariant-loop-k
invariant-loop-k g l = ArePlacesAdded l.initial.bits l.bits (flat_map places_of_edit (take l.k l.moves))
