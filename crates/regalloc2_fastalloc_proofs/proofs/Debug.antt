-- A debug location's place holds its vreg's value, on every path from a definition to each use.
-- Read first: `label_shown` in `DebugLocationsHoldValues`, then the halves of `shown`: with a slot, without one.
-- Depends on regalloc2_fastalloc_proofs (`Walk`, `Safety`, `Slots`), regalloc2_semantics (paths), and kept labels.
-- Main theorem: `label_shown` in `DebugLocationsHoldValues`: a kept label's place is valid, and holds the value. It
-- is `shown` in `ShownPlaceHoldsValue`, which has two halves.
-- With a slot: `left_slot_shows` in `SlotAfterWalk`. Read `IsKeptInSlot` in the specs, then `slot_shows` in
-- `SlotHoldsToUses` (step by step along a path), `defined_shows` in `SlotHoldsDefinedValue` (after a definition, from
-- `stores` in `DefWithMovesStores`), `entered_shows` in `SlotAtBlockBegin` (at a block's start, from the places that
-- hold values there), and `kept_in_slot` in `MovesLeaveSlot`.
-- Without one: `register_shows` in `OperandPlaceHoldsValue`. Read `IsUnslotted` and `in_stays` in
-- `LocationWithoutSlot`, then `value_kept_over_moves` in `PlaceKeepsValueOverMoves`.
-- The others are steps of both: of the walk (`UnnamedStaysUnlocated`, `LocatedStaysOrHasSlot`,
-- `LocationBeforeFirstRead`, `InstWithinWalk`, `BlockWithinWalk`, `DefStoresIntoSlot`, `DefLeavesValueInSlot`) and of
-- paths (`InstOnPath`, `PathStepLeaves`, `WellFormedPaths`, `SlotHoldsValueOnPaths`).
pub mod UnnamedStaysUnlocated
pub mod LocatedVRegsAreUsed
pub mod ChangesCounted
pub mod SlotHoldsDefinedValue
pub mod InstOnPath
pub mod PathStepLeaves
pub mod SlotHoldsToUses
pub mod LocatedStaysOrHasSlot
pub mod OperandPlaceHoldsValue
pub mod DefLeavesValueInSlot
pub mod DebugLocationsHoldValues
pub mod SlotAfterWalk
pub mod ShownPlaceHoldsValue
pub mod InstWithinWalk
pub mod PlaceKeepsValueOverMoves
pub mod WellFormedPaths
pub mod LocationBeforeFirstRead
pub mod SlotHoldsValueOnPaths
pub mod LocationWithoutSlot
pub mod DefWithMovesStores
pub mod DefStoresIntoSlot
pub mod MovesLeaveSlot
pub mod BlockWithinWalk
pub mod SlotAtBlockBegin
