use Rattle.std.proofs.Common.{◌-◌, true, get_or, inl, arith, below_more, refl}
use Rattle.std.proofs.lemmas.List.{get_or_past}
use Rattle.regalloc2_checker_sets.proofs.unused_sets.note_all.Goals as goal

pub returns-clause-long : goal.returns-clause-long
returns-clause-long c = c.loop-i.invariant.long

pub returns-clause-more : goal.returns-clause-more
returns-clause-more c = c.loop-i.invariant.more

pub returns-clause-only : goal.returns-clause-only
returns-clause-only c = c.loop-i.invariant.only

pub returns-clause-noted : goal.returns-clause-noted
returns-clause-noted c = λ i less. c.loop-i.invariant.noted i (omega (arith, less, c.loop-i-test.false))

pub loop-i-init : goal.loop-i-init
loop-i-init c = record { long = refl; more = λ j e. e; only = λ j e. inl e; noted = λ i less. absurd (omega (arith, less)) }

pub loop-i-preserved-then-numbers-i-lt-FIRST : goal.loop-i-preserved-then-numbers-i-lt-FIRST
loop-i-preserved-then-numbers-i-lt-FIRST c =
    let inv = c.loop-i.invariant in
    record {
      long = inv.long;
      more = inv.more;
      only = inv.only;
      noted = below_more _ _ inv.noted (λ kept. absurd (omega (arith, kept, c.if-numbers-i-lt-FIRST.true)));
    }

pub loop-i-preserved-then-index-used : goal.loop-i-preserved-then-index-used
loop-i-preserved-then-index-used c =
    let inv = c.loop-i.invariant in
    record {
      long = inv.long;
      more = inv.more;
      only = inv.only;
      noted = below_more _ _ inv.noted (λ kept. get_or_past c.loop-i.used (get_or c.args.numbers.now c.loop-i.i 0 - 2147483648) true (omega (arith, kept, c.if-index-used.true)));
    }
