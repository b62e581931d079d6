use Rattle.std.proofs.Common.{refl, arith, length, rules}
use Rattle.regalloc2_analysis.proofs.LiveRangesLemmas.Spread.{set_spread, set_there}
use borrow.Author.Rules.{scaled_Fits}
use Rattle.regalloc2_analysis.proofs.live_ranges.entries.set_entry.Goals as goal
use Rattle.regalloc2_analysis.proofs.live_ranges.entries.set_entry.Goals.{else-number-indexes-via-else-number-indexes}
use Rattle.regalloc2_analysis.proofs.live_ranges.entries.set_entry.Goals.{else-number-indexes-via-then-number-indexes+else-indexes-number}

pub returns-then-indexes-number-clause-here : goal.returns-then-indexes-number-clause-here
returns-then-indexes-number-clause-here g c has = set_spread c.args.indexes.now c.args.table.now c.args.number c.args.value c.requires has

pub returns-then-indexes-number-clause-others : goal.returns-then-indexes-number-clause-others
returns-then-indexes-number-clause-others g c n ne = set_there c.args.indexes.now c.args.table.now c.args.number n c.args.value c.requires
    (c.if-number-indexes.true, c.if-indexes-number.true) ne

pub returns-else-number-indexes-clause-here : goal.returns-else-number-indexes-clause-here
returns-else-number-indexes-clause-here g c has = elim c.else-number-indexes.branch [
  | else-number-indexes-via-then-number-indexes+else-indexes-number w ↦ absurd (omega (arith, has.1, w.if-indexes-number.false))
  | else-number-indexes-via-else-number-indexes w ↦ absurd (omega (arith, has.0, w.if-number-indexes.false))
]

pub returns-else-number-indexes-clause-others : goal.returns-else-number-indexes-clause-others
returns-else-number-indexes-clause-others g c n ne = refl

pub offset_bounds-table-indexes : goal.offset_bounds-table-indexes
offset_bounds-table-indexes g c = scaled_Fits _ (length c.args.table.now) _ c.if-indexes-number.true (search rules)
