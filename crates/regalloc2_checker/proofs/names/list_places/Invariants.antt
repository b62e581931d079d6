use Rattle.std.proofs.Common.{take}
use Rattle.regalloc2_checker.specs.NamedBits.{ArePlacesAdded}
use Rattle.regalloc2_checker.proofs.names.list_places.Given as goal

-- the first k places are listed
abbrev pub invariant-loop-k : goal.invariant-loop-k
invariant-loop-k g l = ArePlacesAdded l.initial.bits l.bits (take l.k l.places)
