use Rattle.regalloc2_parts.specs.AtOnce.{ends_of}
use Rattle.regalloc2_parts.proofs.Searching.{AreNextsTo}
use Rattle.regalloc2_parts.proofs.moves.order.find_nexts.Given as goal

abbrev pub invariant-loop-m : goal.invariant-loop-m
invariant-loop-m g l = AreNextsTo (ends_of l.moves) l.nexts.items l.m-index
