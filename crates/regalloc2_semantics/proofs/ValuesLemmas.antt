-- On a faithful output both interpreters run alike.
-- Read first: `faithful_run_alike` in `Runs`, over `Standing`: a place has the number of the write that it holds.
-- Depends on both runs, faithful outputs and `Laws`.
pub mod Standing
pub mod Runs
