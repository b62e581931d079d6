use Rattle.std.proofs.Common.{ℕ, length}
use Rattle.regalloc2_analysis.specs.LiveRanges.LastUses.{NotesReads, end_at}
use Rattle.regalloc2_analysis.specs.LiveRanges.Entries.{HasEntry, spread}
use Rattle.regalloc2_analysis.proofs.live_ranges.ends.note_reads.Given as goal

-- the operands so far are noted
abbrev pub invariant-loop-index : goal.invariant-loop-index
invariant-loop-index l = (n : ℕ) → HasEntry l.indexes n (length l.ends) → NotesReads l.pos l.inst l.operands l.index n (end_at (spread l.indexes l.fn.ends) n)
    (end_at (spread l.indexes l.ends) n)
