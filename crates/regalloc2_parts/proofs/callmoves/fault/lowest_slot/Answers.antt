use borrow.Author.Count.{falls}
use Rattle.std.proofs.Common.{subst, arith, length}
use Rattle.regalloc2_names.specs.Place.{Place}
use Rattle.regalloc2_parts.specs.Callmoves.CallMoves.{IsLower}
use Rattle.regalloc2_parts.proofs.CallmovesLemmas.CallPlaces.{lowest_more}
use Rattle.regalloc2_parts.proofs.callmoves.fault.lowest_slot.Goals as goal

pub loop-at-preserved : goal.loop-at-preserved
loop-at-preserved g c =
    lowest_more c.args.moves.now c.loop-at.at c.args.frame.now.slots.start c.args.frame.now.slots.«end» c.loop-at.lowest c.lower-lowest.result
    c.lower-lowest-in-loop-at.result c.loop-at.invariant
    (subst (λ (p : Place). IsLower p c.args.frame.now.slots.start c.loop-at.lowest c.lower-lowest.result) c.source_at.ensures c.lower-lowest.ensures)
    (subst (λ (p : Place). IsLower p c.args.frame.now.slots.start c.lower-lowest.result c.lower-lowest-in-loop-at.result) c.target_at.ensures
    c.lower-lowest-in-loop-at.ensures)

pub returns-clause-lower : goal.returns-clause-lower
returns-clause-lower g c = λ k lt x. c.loop-at.invariant.none k x.0 lt (x.1.0, (omega (arith, x.1.1)), x.1.2)

pub loop-at-init : goal.loop-at-init
loop-at-init g c = record {
  within = omega arith;
  named = λ lt. absurd (omega arith);
  none = λ k low lt x. absurd (omega (arith, x.1));
}

pub source_at-requires : goal.source_at-requires
source_at-requires g c = c.loop-at-test.true

pub target_at-requires : goal.target_at-requires
target_at-requires g c = c.loop-at-test.true

pub loop-at-smaller : goal.loop-at-smaller
loop-at-smaller g c = falls (length c.args.moves.now) c.loop-at.at c.loop-at-test.true

pub returns-clause-end : goal.returns-clause-end
returns-clause-end g c = c.loop-at.invariant.within

pub returns-clause-named : goal.returns-clause-named
returns-clause-named g c = λ lt. let s = c.loop-at.invariant.named lt in (s.0, (s.1.0, (omega (arith, s.1.1)), s.1.2))
