-- The main theorem's conclusion, the reason of each error, the debug locations, and the end of an output's loan.
-- Read first: `IsAllocation` in `Guarantee`, then `IsReason` in `ErrorReason`.
-- Depends on regalloc2_semantics: paths, both runs, faithful outputs, slots. `BeforeSteps`, `DebugLocations` and
-- `Survey` serve this crate's own functions.
pub mod Guarantee
pub mod ErrorReason
pub mod BeforeSteps
pub mod DebugLocations
pub mod Lending
pub mod Survey
