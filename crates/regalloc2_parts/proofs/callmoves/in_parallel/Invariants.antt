use Rattle.std.proofs.Common.{◌≡◌, take}
use Rattle.regalloc2_parts.specs.Callmoves.CallMoves.{with_units}
use Rattle.regalloc2_parts.proofs.callmoves.in_parallel.Given as goal

abbrev pub invariant-loop-m : goal.invariant-loop-m
invariant-loop-m g l = l.parallel ≡ with_units (take l.m-index l.moves)
