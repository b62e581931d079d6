use Rattle.std.proofs.Common.{ℕ, length}
use Rattle.regalloc2_analysis.specs.LiveRanges.LastUses.{NotesArguments, end_at}
use Rattle.regalloc2_analysis.specs.LiveRanges.Entries.{HasEntry, spread}
use Rattle.regalloc2_analysis.proofs.live_ranges.ends.note_arguments.Given as goal

-- the arguments so far are noted
abbrev pub invariant-loop-argument : goal.invariant-loop-argument
invariant-loop-argument l = (n : ℕ) → HasEntry l.indexes n (length l.ends) → NotesArguments l.fn.inst l.arguments l.argument-index n
    (end_at (spread l.indexes l.fn.ends) n)
    (end_at (spread l.indexes l.ends) n)
