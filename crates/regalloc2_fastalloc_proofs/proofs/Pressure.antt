-- A walk that runs out of registers does so at an instruction that doesn't fit.
-- Read first: `fits_enough` and `all_wait` in `WaitingOperands`, and `held_ample` in `EnoughAtStart`.
-- Depends on regalloc2_fastalloc_proofs (relations and `Safety`) and on `Fits` of regalloc2_semantics.
-- Main theorem: `walk_stops` in `OutOfRegs`. Its invariant: `HasEnoughRegs` in the specs, as many registers are free
-- as are needed, and one is reserved for moves. An instruction that fits leaves a register for each operand that waits
-- (`WaitingOperands`), once fixed registers and clobbers are reserved (`EnoughAtStart`).
-- Then upwards: `OneRegTaken`, `StepsLeaveEnough` and `EvictionsLeaveEnough` (one step), `ClaimLeavesEnough`,
-- `FreeRegsCoverWaiting` and `OperandFindsReg` (one operand), `OperandsLeaveEnough` (`processes_operand_pays`),
-- `PassesLeaveEnough` (`never_late`, `never_early`), `InstFindsRegs` (`never_alloc_inst`), with `FittingInstReserves`,
-- `BranchFindsRegs` and `BlockStartFindsRegs` for the rest of a block. `never_` says that a step doesn't fail, `ample_`
-- that it leaves enough. `TablesHaveAllRegs` and `WalkKeepsSafe` prove what all of them assume.
pub mod BlockStartFindsRegs
pub mod EvictionsLeaveEnough
pub mod InstFindsRegs
pub mod OutOfRegs
pub mod OneRegTaken
pub mod TablesHaveAllRegs
pub mod OperandFindsReg
pub mod BranchFindsRegs
pub mod BranchRegsKnown
pub mod PassesLeaveEnough
pub mod FreeRegsCoverWaiting
pub mod OperandsLeaveEnough
pub mod ClaimLeavesEnough
pub mod FittingInstReserves
pub mod EnoughAtStart
pub mod StepsLeaveEnough
pub mod WaitingOperands
pub mod WalkKeepsSafe
