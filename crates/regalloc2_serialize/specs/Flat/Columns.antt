-- A function in columns: its words, the function that they lay out, and why others lay out none.
-- Read first: `Layout` (`widths`, `column`), `Value` (`IsLaidOutAs`, `IsMachineOf`), then `IsColumnsFault` in `Sound`.
-- Depends on regalloc2_function.
pub mod Layout
pub mod Value
pub mod Sound
pub mod Kept
pub mod Tables
pub mod Limits
