use Rattle.regalloc2_parts.specs.AtOnce.{AreReal}
use Rattle.std.proofs.Common.{sym, subst, arith}
use Rattle.regalloc2_parts.proofs.moves.ParallelMoves.new.Goals as goal

pub invariant_of-result : goal.invariant_of-result
invariant_of-result g c = (subst (λ xs. AreReal xs) (sym c.new.ensures.items) (λ k d lt. absurd (omega (arith, lt))), omega (arith, c.new.ensures.capacity))

pub returns : goal.returns
returns g c = c.new.ensures.items
