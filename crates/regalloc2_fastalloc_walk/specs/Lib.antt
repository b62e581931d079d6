-- What single functions of the walk do, where the relations of regalloc2_fastalloc_proofs leave it open.
-- Read first: `tables_of` in `StateView`, a state as the relations see it; then `ReserveSteps` and `BranchStores`.
-- Depends on regalloc2_fastalloc_proofs (relations), regalloc2_fastalloc_state (tables) and the branch definitions.
pub mod BeforeSteps
pub mod BranchStores
pub mod Findings
pub mod OperandsAt
pub mod OwnDefs
pub mod PlaceChoice
pub mod PlaceSteps
pub mod ReserveSteps
pub mod StateView
