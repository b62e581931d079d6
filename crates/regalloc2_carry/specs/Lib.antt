-- What a listing carries for one vreg, and what each block must do for reads to agree on every path.
-- Read first: `Carries` in `Carry`, over `Listing`; `BlocksAgreeInPlaces` in `Blocks`; `Progress` in `OperandsPlaced`.
-- Depends on regalloc2_semantics: paths, both runs, well-formed functions. The allocator isn't mentioned.
pub mod Listing
pub mod Carry
pub mod BlockByPoints
pub mod Blocks
pub mod Live
pub mod Instruction
pub mod OperandsPlaced
pub mod Stores
