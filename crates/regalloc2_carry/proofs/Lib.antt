-- From what a block's listing carries for one vreg to whole paths.
-- Read first: `Carries` in the specs, and the rules by which it grows, in `CarryRules`; then
-- `blocks_agree_in_places_by_points` in `Paths`.
-- Depends on paths, both runs and well-formed functions. No file here mentions the allocator.
-- Main theorem: `blocks_agree_in_places_by_points`: where blocks carry every vreg, reads agree on every path. Beside
-- it: `live_stand_in_places` in `LiveIn` (what is live where a path comes to a block is in its place).
-- How a listing is put together from edits: `Points`, `MoveInFront`, `PushedMoves`, `ListingParts`, `StoresInFront`.
-- How it carries backward: `BlockBackward` (`step_carried`), `NotRead`, `UnwrittenPlaces`, `Slots`, `ParamsOnEdge`;
-- along a path: `PathSteps`, `PathInBlock`.
-- One instruction: `cross_all` in `InstCarries`, over the record of `Operands`: `RecordSteps` (each step keeps it),
-- `AllowedPlaces`, `SharedPlace`, `NeedsAcrossMoves`, `BoundaryToBoundary`. What a well-formed function gives:
-- `SingleDef`, `Order`. `BothRuns`, `Plain` and `Forms` serve all.
pub mod AllowedPlaces
pub mod BlockBackward
pub mod BothRuns
pub mod BoundaryToBoundary
pub mod CarryRules
pub mod Forms
pub mod InstCarries
pub mod ListingParts
pub mod LiveIn
pub mod MoveInFront
pub mod NeedsAcrossMoves
pub mod NotRead
pub mod Operands
pub mod Order
pub mod ParamsOnEdge
pub mod PathInBlock
pub mod PathSteps
pub mod Paths
pub mod Plain
pub mod Points
pub mod PushedMoves
pub mod RecordSteps
pub mod SharedPlace
pub mod SingleDef
pub mod Slots
pub mod StoresInFront
pub mod UnwrittenPlaces
