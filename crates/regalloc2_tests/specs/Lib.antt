-- The function whose instructions all have the same operands, and what the places must be that a resolver's closures
-- return.
-- Read first: `same_function` in `Same`; `Serves` in `Serving`.
-- Depends on regalloc2_function and regalloc2_parts.
pub mod Same
pub mod Serving
