use Rattle.std.proofs.Common.{below_more, arith}
use Rattle.regalloc2_parts.proofs.callmoves.fault.find_by_pairs.Goals as goal

pub loop-at-preserved : goal.loop-at-preserved
loop-at-preserved c = below_more _ _ c.loop-at.invariant (c.has_other_source.ensures.no c.if-has_other_source.false)

pub returns : goal.returns
returns c = λ k lt. c.loop-at.invariant k (omega arith)
