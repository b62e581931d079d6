-- A lemma file for the operands of a call.
-- Read first: `operands_next` in `Arguments`.
-- Depends on the specs.
pub mod Arguments
