-- The safety invariant: slots have one owner, edits have legal ends, and there are no stack-to-stack moves.
-- Read first: the record `IsSafe` in the specs, then `adds_move_if_kept` in `StepsKeepSafe`, a typical step.
-- Depends on `Changes`, on `Operands` for the operands so far, and on `Slots` for growth.
-- Main theorem: `walk_blocks_good` in `FunctionKeepsSafe`. From a fresh state, where between blocks no vreg is in a
-- register, allocating a well-formed function ends in a safe state, with a good place for each operand. `OutputOfWalk`
-- turns that into the guarantees about the output.
-- Upwards from `adds_move_if_kept`: `OperandKeepsSafe` (`allocs_operand_kept`), `OperandPassesKeepSafe`
-- (`late_operands_kept`, `early_operands_kept`), `InstKeepsSafe` (`allocs_inst_kept`, and `allocs_inst_last_kept` for a
-- block's last instruction), `InstsKeepSafe` (what the walk may write); then, with `BlockStartKeepsSafe`,
-- `StoresKeepSafe` and `BranchKeepsSafe`, `BlocksKeepSafe` (`allocs_blocks_kept`). `InitialState` is its start;
-- `WellFormedKeepsSafe` and `OperandAssumptions` give its premises. `StepsKeepState` and `BranchArgsKeepState` are
-- about another invariant: a whole state (each table the other's inverse), on which the folders on what listings carry
-- depend. `MachineRegs` serves `Walk/UsesReadOwnDefs`; `StateKept` serves other crates alone.
pub mod BlockStartKeepsSafe
pub mod BlocksKeepSafe
pub mod BranchArgsKeepState
pub mod BranchKeepsSafe
pub mod FunctionKeepsSafe
pub mod InitialState
pub mod InstKeepsSafe
pub mod InstsKeepSafe
pub mod MachineRegs
pub mod OperandAssumptions
pub mod OperandKeepsSafe
pub mod OperandPassesKeepSafe
pub mod OutputOfWalk
pub mod StateKept
pub mod StepsKeepMachine
pub mod StepsKeepSafe
pub mod StepsKeepState
pub mod StoredDefs
pub mod StoresKeepSafe
pub mod WalkKeepsMachine
pub mod WellFormedKeepsSafe
