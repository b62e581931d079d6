-- The start of a block: parameters are in their slots on entry, and each vreg that is in a register is reloaded from
-- its slot.
-- Read first: the records `Leads` and `Reached` in `ReloadAtBegin`: what a step keeps, and the state between steps.
-- Depends on `Operands`, `Moves` and `Inst`, and on listings of regalloc2_carry that grow at their front.
-- Main theorem: `reloads_at_begin_carried` in `ReloadAtBegin`. What the listing carried from each vreg's location, it
-- carries with the reloads in front from the location after that, which is its slot or none; parameters have none
-- (`block_start_places` says this of the state).
-- In that file: `evicts_preg_reached` (a register is reloaded), `reloads_param_reached` (a parameter), both over lists,
-- and `block_start_carries` (all of it). `CarriesFromSlot` imports it and says the same for one vreg against the slots
-- at the end of the whole walk (`entered_carried`): the listing carries a vreg from its final slot, unless the block
-- writes it. This is what `Walk/BlockObligations` uses.
pub mod BranchDefsCarried
pub mod CarriesFromSlot
pub mod ReloadAtBegin
pub mod StoresOfDefs
