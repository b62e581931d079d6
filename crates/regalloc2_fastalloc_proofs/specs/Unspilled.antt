-- The invariant of a walk over one block in which each vreg has a register of its own.
-- Read first: `IsSpillFree` in `SpillFree`.
-- Depends on the relations of regalloc2_fastalloc_proofs and the tables of regalloc2_fastalloc_state.
pub mod SpillFree
