-- Functions kept in tables, and the builder that makes them.
-- Read first: `function_of_table` in `Table`; then `Draft`, the calls made to a builder, and `IsBuilt` in `Built`.
-- Depends on regalloc2_function. `Steps` is what the loops of `finish` do.
pub mod Table
pub mod TableLimits
pub mod Draft
pub mod Built
pub mod BuildText
pub mod Steps
