-- Each block of the output carries what paths require of it: the walk over all blocks, from a fresh state to the
-- output.
-- Read first: `step_of` in `InstForOneVReg`, which is `Inst/OneInstCarries` for one vreg.
-- Depends on `Inst`, `BlockBegin`, `Branches`, `BlockEnd`, `Safety` and `Slots`.
-- Main theorem: `blocks_carry` in `BlocksCarryFromFreshState`. If branches define in known places, operands
-- have good places and edits write to slots only what they may, every block's listing carries each vreg that is used
-- somewhere from its place on paths before the block to the one where paths need it after. Beside it: `at_walks_end`
-- (the final state), `used_slots`, `handed_slots` (what is used across blocks has a slot).
-- `InstsBeforeLastCarry` chains `step_of` (`goes_carried`), `LastInstAndRest` splits a block this way (`split`), and
-- `BlockObligations` adds the block's start and its last instruction (`block_owes`). `FunctionLaws` is what all of them
-- require of the function. `BlockCarries` puts these together (`block_carries`), with `DefsBeforeUses` for what other
-- blocks read; `AllBlocksCarry` takes all blocks. `BranchesPlaceDefs` says where branches leave what they define.
-- `InstBoundaries` says what holds between any two instructions and at block ends; `InstsCarry` has the fresh state and
-- the list of places. `UsesReadOwnDefs` and `ListParts` serve contracts of the code: no file of this folder
-- imports them. `WholeWalk` is what the last lemmas are about.
pub mod AllBlocksCarry
pub mod BlockCarries
pub mod BlockObligations
pub mod BlocksCarryFromFreshState
pub mod BranchesPlaceDefs
pub mod DefsBeforeUses
pub mod FunctionLaws
pub mod InstBoundaries
pub mod InstForOneVReg
pub mod InstsBeforeLastCarry
pub mod InstsCarry
pub mod LastInstAndRest
pub mod ListParts
pub mod UsesReadOwnDefs
pub mod WholeWalk
