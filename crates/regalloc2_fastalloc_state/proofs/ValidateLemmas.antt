-- A function that passes the tests is well-formed, and each error is that of the first test that fails.
-- Read first: `tested_on_ok` in `ValidatedProof`, the main theorem; `shape_fault` and `soundness_fault` are errors.
-- Depends on `WellFormed` and `Reasons` of regalloc2_function.
-- `ConstraintTests` has the loops over operands (`sound_reuses` for reuses, `clear_read` for clobbers); `OperandReads`
-- serves other crates too.
pub mod ConstraintTests
pub mod OperandReads
pub mod ValidatedProof
