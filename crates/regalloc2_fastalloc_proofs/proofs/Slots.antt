-- A vreg's spill slot, once made, holds that vreg's value alone.
-- Read first: `Grown` and `changes_grow` in `StepsKeepSlots`: slots stay, and new ones are at or past the count.
-- Depends on `Changes` and `Safety`, and on `Walk` for the walk over all blocks.
-- Main theorem: `keeps_slots` in `InstsLeaveSlots`. If edits write to slots only what they may and places are good,
-- each instruction but a block's last one leaves the slot of a vreg that it doesn't define alone. Its counterpart:
-- `used_has_slot` in `LiveInHasSlot`, that a vreg used in a block that doesn't write it has a slot from that block's
-- start on in the walk. `Walk/BlocksCarryFromFreshState` uses both.
-- `InstLeavesOwnedSlot` gives the theorem's premise on edits: one that goes to a vreg's own slot is one that may write
-- that vreg's value (`own_written`). `LocatedStaysLocated` serves `LiveInHasSlot`: a vreg with a location keeps one
-- over evictions, moves and a block's start.
-- `SlotsGrow` restates growth for the table of slots alone, as `Safety` needs it. `SlotsOwned` (`owner_known`) says
-- that an operand in a slot of the output is in its own vreg's.
-- That each slot of the output has one owner, with units of its own, is `made_slots_owned` in `OutputOwnsSlots`: each
-- step keeps slots disjoint and moves within a class (`NewSlotsApart` and the `..SlotsApart` files, up to
-- `walk_classed`), and such slots are owned (`ApartSlotsAreOwned`). Its result, `OwnsSlots`, says too that only moves
-- before a branch name the branch's slots (`ServesAt`).
pub mod ApartSlotsAreOwned
pub mod ArgumentHasSlot
pub mod BranchKeepsSlotsApart
pub mod InstKeepsSlotsApart
pub mod InstLeavesOwnedSlot
pub mod InstsLeaveSlots
pub mod LiveInHasSlot
pub mod LocatedStaysLocated
pub mod NewSlotsApart
pub mod OutputOwnsSlots
pub mod SlotsGrow
pub mod SlotsOwned
pub mod StepsKeepSlots
pub mod StepsKeepSlotsApart
pub mod StoresKeepSlotsApart
pub mod WalkKeepsSlotsApart
