use Rattle.regalloc2_parts.specs.AtOnce.{ends_of}
use Rattle.regalloc2_parts.proofs.Tidying.{IsTidyTo}
use Rattle.regalloc2_parts.proofs.moves.order.is_tidy.Given as goal

abbrev pub invariant-loop-m : goal.invariant-loop-m
invariant-loop-m g l = IsTidyTo (ends_of l.moves) l.last l.m-index
