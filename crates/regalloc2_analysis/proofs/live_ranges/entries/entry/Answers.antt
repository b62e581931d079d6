use Rattle.std.proofs.Common.{◌∙◌, sym}
use Rattle.std.specs.Prelude.{None}
use Rattle.std.proofs.lemmas.List.{get_or_default, get_or_past}
use Rattle.regalloc2_analysis.proofs.LiveRangesLemmas.Spread.{spread_at, spread_past}
use Rattle.regalloc2_analysis.proofs.live_ranges.entries.entry.Goals as goal
use Rattle.regalloc2_analysis.proofs.live_ranges.entries.entry.Goals.{else-number-indexes-via-else-number-indexes}
use Rattle.regalloc2_analysis.proofs.live_ranges.entries.entry.Goals.{else-number-indexes-via-then-number-indexes+else-indexes-number}

pub returns-then-indexes-number : goal.returns-then-indexes-number
returns-then-indexes-number g c =
    c.index-table-indexes.is ∙ get_or_default c.args.table.now _ c.index-table-indexes.result None c.if-indexes-number.true
    ∙ sym (spread_at c.args.indexes.now c.args.table.now c.args.number c.if-number-indexes.true)

pub returns-else-number-indexes : goal.returns-else-number-indexes
returns-else-number-indexes g c = elim c.else-number-indexes.branch [
  | else-number-indexes-via-then-number-indexes+else-indexes-number w ↦
      sym (spread_at c.args.indexes.now c.args.table.now c.args.number w.if-number-indexes.true ∙ get_or_past c.args.table.now _ None w.if-indexes-number.false)
  | else-number-indexes-via-else-number-indexes w ↦ sym (spread_past c.args.indexes.now c.args.table.now c.args.number w.if-number-indexes.false)
]
