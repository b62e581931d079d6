-- Lemmas for the loops that write lines of assembly and functions.
-- Read first: `lines_none` in `Lines`.
-- Depends on `Assembly` of the specs.
pub mod Lines
pub mod Functions
