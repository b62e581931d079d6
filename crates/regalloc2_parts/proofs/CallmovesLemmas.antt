-- The scheduled moves of a call do what its parallel moves do, and the error reported is the first.
-- Read first: `scheduled` in `CallSchedule`; then `usable` (no move names a scratch resource) and `fails`.
-- Depends on the resolvers of regalloc2_parts by their contracts (`Computed`).
-- `CallPlaces` and `Tables` are the loops that look for an error.
pub mod CallPlaces
pub mod Tables
pub mod CallSchedule
