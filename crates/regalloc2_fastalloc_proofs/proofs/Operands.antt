-- The operands of one instruction, allocated one after another: the late ones, then the early ones.
-- Read first: `BlockTail`, then `Located` and `OwesPlaces` in `RecordOverState`, then `Ready` and `Laid` in
-- `RecordOfInst`.
-- Depends on `Evictions` and `Moves`, and on `RecordSteps` and `AllowedPlaces` of regalloc2_carry.
-- Main theorem: `laid_both` in `AllOperands`. Both passes keep the record `Laid`: which operands have claimed a place,
-- which are done, and that the rest of the listing carries each known vreg from where the record needs it.
-- All files keep the records `Ready` and `Laid`. One operand: `ClaimAndUse` and `ClaimKeepsRecord`, then
-- `AllocOperand` (it gets a place, `allocs_operand_step`); `FreeDef` and `DefRecord` (a definition ends its vreg,
-- `frees_alloc_step`); `RecordAfterOperand` joins the two. `UsesAndPlainDefs` and `ReuseDefs` are one step of a pass.
-- `WellFormedInsts` (`orderly`, `knows`) gives the premises for a well-formed function; `DefinedNumbers` says which
-- numbers operands define. `AllocsSoFar` is the record of `Safety` (`Filled`, `AreSoundOperands`) and isn't used here;
-- `SelectedPlace` and `OperandRules` serve contracts of the code.
pub mod AllOperands
pub mod AllocOperand
pub mod AllocsSoFar
pub mod BlockTail
pub mod ClaimAndUse
pub mod ClaimKeepsRecord
pub mod DefRecord
pub mod DefinedNumbers
pub mod FreeDef
pub mod OperandRules
pub mod RecordAfterOperand
pub mod RecordOfInst
pub mod RecordOverState
pub mod ReuseDefs
pub mod SelectedPlace
pub mod UsesAndPlainDefs
pub mod WellFormedInsts
