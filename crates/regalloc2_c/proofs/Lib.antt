-- Lemmas for the C functions: a call's outcome follows from the outcomes of its parts.
-- Read first: `comes_to` in `Outcomes`, then `told` in `Verdicts`.
-- Depends on the specs, and on the reasons of errors of regalloc2.
pub mod Indexes
pub mod Lines
pub mod Outcomes
pub mod Parts
pub mod Triples
pub mod Verdicts
