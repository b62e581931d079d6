-- Lemmas for the walk's functions, each of which makes its step, a relation of regalloc2_fastalloc_proofs.
-- Read first: `Steps`, which chains steps; then `reserves_all` in `RegsReserved`, the loop over fixed registers.
-- Depends on regalloc2_fastalloc_proofs (relations), regalloc2_fastalloc_state (tables) and the branch definitions.
-- `AvailableCount` says which registers are found free, and `LrusOfClasses` what the order of their use has.
-- `Clashes` is about values that differ.
-- `RegsReserved` (`reserves_all`) is the loop over fixed registers, `OperandOutOfRegs` says where an operand stops,
-- `Steps` chains steps, and `StepsFail` has the steps that do nothing or fail.
-- `InstPlaced`: an instruction is allocated once its operands are placed.
-- `NoMovesPassed`: a branch to blocks without parameters does nothing to the tables. `FilledClobbers`: only the
-- clobbers that hold vregs have to be emptied.
-- `OperandsSorted` is the pass that counts operands, and finds whether any is fixed.
-- `SlotUses` (`slot_use`): a use under `Any` stays in its vreg's slot.
-- What a branch defines: `OwnDefs` (the tables say what is its own), `StoresListed` (`lists_stores`: what a block's
-- beginning stores is listed, each once, counted in `CountedOnce`), `StoresPushed` (the moves of the stores, as they
-- are pushed) and `StoresOnEdge` (`stores_on`: these moves are the stores on the edge).
pub mod AvailableCount
pub mod Clashes
pub mod CountedOnce
pub mod FilledClobbers
pub mod Findings
pub mod InstPlaced
pub mod RegOperands
pub mod RegsReserved
pub mod LrusOfClasses
pub mod NoMovesPassed
pub mod OperandsProcessed
pub mod OperandOutOfRegs
pub mod OperandsSorted
pub mod OwnDefs
pub mod PickedInTurn
pub mod SlotUses
pub mod Steps
pub mod StepsFail
pub mod StoresListed
pub mod StoresOnEdge
pub mod StoresPushed
pub mod UsesInTurn
