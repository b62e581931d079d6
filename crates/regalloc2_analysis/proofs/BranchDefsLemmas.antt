-- The loops over a function's branches, uses and edges fill the tables of branch definitions.
-- Read first: `tables_all` in `Tables`; `SiteNotes`, `UseNotes` and `EdgeNotes` are one loop each.
-- Depends on `SingleDef` of regalloc2_carry: a number is defined once. Other crates cite `BlockEnds`, `UsedOrNot`.
pub mod BlockEnds
pub mod RoomForNumbers
pub mod SiteNotes
pub mod UseNotes
pub mod EdgeNotes
pub mod Tables
pub mod UsedOrNot
