-- Each function of the walk as a relation between a state and its outcome, and the invariant that the walk keeps.
-- Read first: `InstSteps` (`StateValue`, `AllocInst`), then `BranchSteps`, `BlockStart`, `BlockSteps`, `Safety`.
-- `Debug`, `Pressure`, `Unspilled`: debug locations, enough registers, and a block that needs no move.
-- Depends on the tables of regalloc2_fastalloc_state (`StateParts`, `InstRegs`) and on regalloc2_function.
pub mod BlockStart
pub mod BlockSteps
pub mod BranchSteps
pub mod Debug
pub mod InstSteps
pub mod Located
pub mod Pressure
pub mod Safety
pub mod SlotLayout
pub mod StoreSteps
pub mod Unspilled
