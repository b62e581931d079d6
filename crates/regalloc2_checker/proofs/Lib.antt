-- The checker reports no error exactly if the output is faithful, and no fault of places exactly if they are cells of their own.
-- Read first: `accepted_is_faithful` in `FixpointDecides`, then `report_verdict` in `NoErrorsIsFaithful`; `JudgedCells`.
-- Depends on the specs and on lemmas of regalloc2_checker_sets.
-- Tables: `TableLaws`, what a change of the parts does to what tables hold; `Shown`, to what they show; `TableSteps`: a step of the
-- tables is a step of the facts. `Holders` is walks over places, `Meets` meets with a saved copy; `UnusedSets`, `Dropped`:
-- sets and tables that are dropped.
mod Shown
mod Holders
mod TableLaws
mod Meets
mod Times
mod UnusedSets
mod Dropped
mod FactsTraced
mod FactsFollowMaps
mod Fixpoint
mod FixpointDecides
mod Keys
mod Positions
mod TableSteps
mod PassedTables
mod VRegsInPlace
mod RestOfList
mod NamedBits
mod NamedPlaces
mod PairsDecrease
mod RoundInvariant
mod Updates
mod Laid
mod UnmarkedStaySolved
mod Queues
mod Started
mod TransferFollowsFacts
mod BlocksInRange
mod CopiedListing
mod Blocks
mod Sweeps
mod NoErrorsIsFaithful
mod OperandErrors
mod Members
mod NumberCells
mod PlacesListed
mod ErrorsOnPaths
mod AddedSlots
mod OnePlace
mod NextVRegs
mod SweptSlots
mod OutputItems
mod JudgedCells
