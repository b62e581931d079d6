-- A block's last instruction, after which no vreg is in a register.
-- Read first: `IsOutside` and `NoMovePushed` in `NoMoveForOperand`, then `no_move_at_end` in `NoMoveInLastInst`.
-- Depends on `Operands` and `Inst`, and on `Walk` and `Safety` for a branch in its block.
-- Main theorem: `own_moves` in `BranchEndsBlock`. A branch with its own moves carries a vreg that it doesn't define
-- from any place that must hold it before the branch to one after it, and leaves slots to their vregs
-- (`keeps_own`). For a return: `return_owes` in `LastInst`.
-- `no_move_at_end`: allocating the operands adds no edit. `NoMoveForOperand` is one operand (`allocs_operand_no_move`,
-- `frees_alloc_no_move`), `NoMoveInPasses` one step of a pass (`processes_operand_no_move`), `NoMoveInLastInst` both
-- passes (`no_move_pushed_at_end`); `Safety/BlocksKeepSafe` uses it too, since no edit may be after a block.
-- `BranchAlone` (`branch_moves_uses_only`) is a branch alone: its moves are before it, each to a register or to the
-- place of a use. `BranchEndsBlock` imports it. `LastInst` is apart from these: what is needed after a block
-- (`owed_is_relied`).
pub mod BranchAlone
pub mod BranchEndsBlock
pub mod DefsInSlots
pub mod LastInst
pub mod NoMoveForOperand
pub mod NoMoveInLastInst
pub mod NoMoveInPasses
