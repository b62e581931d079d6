-- How an output uses one vreg's spill slot, and the place that debug locations name for a vreg.
-- Read first: `IsKeptInSlot` in `SlotHoldsValue`; then `SlotWrites`, the moves that write the slot, and `ShownPlace`.
-- Depends on regalloc2_semantics (paths and debug points) and on the listings of regalloc2_carry.
pub mod SlotHoldsValue
pub mod ShownPlace
pub mod SlotWrites
