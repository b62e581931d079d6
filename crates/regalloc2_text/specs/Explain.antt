-- The texts of the causes of errors in stored numbers.
-- Read first: `stored_cause_text` in `FaultText`.
-- Depends on regalloc2_names (classes) and regalloc2_function (texts of errors).
pub mod FaultText
