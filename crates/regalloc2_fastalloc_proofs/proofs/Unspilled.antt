-- A function of one block in which each vreg can have a register of its own gets no moves and no slots.
-- Read first: `operand_got` in `OperandTakesFreeReg`: an operand takes a register that no other vreg uses.
-- Depends on regalloc2_fastalloc_proofs (relations) and on `chosen` of regalloc2_fastalloc_state, the register policy.
-- Main theorem: `walk_is_spill_free` in `OneBlock`. Its invariant: `IsSpillFree` in the specs: of each class the
-- registers that weren't used are last in the order of use, are free, and hold no vreg; the used ones are no more than
-- the vregs seen so far. `found_last` in `LruUnusedLast` derives from `chosen` that the chosen one wasn't used. Then
-- upwards: `OperandsSpillFree` (the operands of a position), `BlockSpillFree` (an instruction), `OneBlock` (the walk).
pub mod FreeAtAny
pub mod LruUnusedLast
pub mod OperandTakesFreeReg
pub mod OperandsSpillFree
pub mod BlockSpillFree
pub mod OneBlock
