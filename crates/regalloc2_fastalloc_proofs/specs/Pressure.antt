-- How many registers are free at both positions of an instruction, and how many its operands still need.
-- Read first: `HasEnoughRegs` in `EnoughRegs`.
-- Depends on the relations of regalloc2_fastalloc_proofs and on `Fits` of regalloc2_semantics.
pub mod EnoughRegs
