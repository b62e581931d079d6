use Rattle.std.proofs.Common.{ℕ, length}
use Rattle.regalloc2_analysis.specs.LiveRanges.LastUses.{NotesPassed, end_at}
use Rattle.regalloc2_analysis.specs.LiveRanges.Entries.{HasEntry, spread}
use Rattle.regalloc2_analysis.proofs.live_ranges.ends.note_passed.Given as goal

-- the successors so far are noted
abbrev pub invariant-loop-succ : goal.invariant-loop-succ
invariant-loop-succ g l = (n : ℕ) → HasEntry l.indexes n (length l.ends) → NotesPassed (g.F.Function.function l.f) l.block l.inst l.succ n
    (end_at (spread l.indexes l.fn.ends) n)
    (end_at (spread l.indexes l.ends) n)
