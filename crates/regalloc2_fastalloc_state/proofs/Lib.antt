-- Lemmas for the parts of the walk's state, each of which keeps its invariant.
-- Read first: `inverse_marked` in `VRegInPRegInverse`: the two tables of locations stay inverse.
-- Depends on the specs, and on `Cells` of regalloc2_semantics and `Plain` of regalloc2_carry for maps that change at
-- one place.
-- Locations: `inverse_marked` in `VRegInPRegInverse`, the two tables stay inverse; `RegistersOfVRegs`. Slots:
-- `SpillSlotUnits` (how many units they take), `SlotsAsPlaces`. Registers: `LrusOfMachine`, `LrusByClass` and
-- `GreatestOfClass`, over `ArraysByClass`, `ClassIsEmpty`, `SetMembers` and `CountingLaws`. Edits:
-- `PointsDescend` (points never rise), `EditsPushed`. Operands of an instruction as masks: `MaskLemmas`.
-- Other crates cite `ArraysByClass`, `CountingLaws`, `PointsDescend`, `SetMembers`, `SlotsAsPlaces`,
-- `SpillSlotUnits` and `TakenOut`.
pub mod ArraysByClass
pub mod ClassIsEmpty
pub mod CountingLaws
pub mod EditsPushed
pub mod GreatestOfClass
pub mod LrusByClass
pub mod LrusOfMachine
pub mod MaskLemmas
pub mod PointsDescend
pub mod RegistersOfVRegs
pub mod SetMembers
pub mod SlotsAsPlaces
pub mod SpillSlotUnits
pub mod TakenOut
pub mod VRegInPRegInverse
pub mod ValidateLemmas
