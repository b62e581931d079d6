-- Definitions for `ra2`: its subcommands, what it reads, what it writes, and its exit status.
-- Read first: `IsOutcome` in `Outcome`, what each status says; then `Input`, what a text names.
-- Depends on regalloc2_serialize (stored functions), regalloc2_checker (reports), regalloc2_fastalloc (errors).
pub mod Words
pub mod Input
pub mod Outcome
pub mod Text
pub mod Findings
