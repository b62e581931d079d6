-- Definitions for the C library: what a status says of the arrays that are passed, and what is handed out.
-- Read first: `Status` numbers failures as the header does, and `Payload` has their words; then `Handing`, and `IsAllocateOutcome` and `IsCheckOutcome` in
-- `Outcome`.
-- Depends on regalloc2 (errors and their reasons), regalloc2_checker (faults of an output) and regalloc2_serialize
-- (functions in columns, stored functions, an output's words).
pub mod Status
pub mod Payload
pub mod Faults
pub mod Handing
pub mod Outcome
pub mod Texts
