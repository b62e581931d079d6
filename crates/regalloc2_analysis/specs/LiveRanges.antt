-- Live ranges of vregs as a debugger sees them, and the debug labels that are kept.
-- Read first: `LiveRanges` (`IsLiveRange`, `AreKeptLabels`), then their walk: `LastUses`, `WalkInvariant`.
-- Depends on `Debug` of regalloc2_semantics: the first and last point of a vreg.
pub mod LiveRanges
pub mod LastUses
pub mod WalkInvariant
pub mod Marks
pub mod Entries
