-- Lemmas for the errors of `allocate`, `run_tested` and `run_checked`: each has its reason.
-- Read first: `checked_reason` in `CheckerErrorReasons`, a checked run's error; then `allocate_reason` in
-- `AllocateErrorReasons`.
-- Depends on `Judged` and `Allocated` of the specs, and on the reports of regalloc2_checker.
pub mod CheckerErrorReasons
pub mod AllocateErrorReasons
pub mod CountedOperands
