-- One instruction by itself, with the moves before and after it.
-- Read first: the record `CarriedBut` in `BoundaryToFirstOperand`: what is known at a boundary between instructions.
-- Depends on `Evictions`, `Operands` and `Moves`, and on `InstCarries` of regalloc2_carry.
-- Main theorem: `carries_by_itself` in `OneInstCarries`. From a state between instructions after it, allocating an
-- instruction leaves one before it, and its listing carries each known vreg from the places where it is needed before
-- to the places where it is needed after; after an instruction that ends its block nothing is needed.
-- The walk goes backward, in three parts. `BoundaryToFirstOperand` (`ready_for_operands`): fixed registers are reserved
-- and evicted, clobbers evicted. Then `Operands/AllOperands` (`laid_both`). `LastOperandToBoundary`
-- (`listing_carries`): across the instruction itself, and the moves of its uses.
-- `InstLaw` puts the three together (`each_exactly`, `each_ended`), and `OneInstCarries` is `InstLaw` with nothing
-- after it. `AcrossInst` has what the parts share: which vregs are live when an instruction begins (`lives_in`,
-- `located_at_begin`), and the step across it. `ProperInsts` is what all of them require of a function's instructions.
pub mod AcrossInst
pub mod BoundaryToFirstOperand
pub mod InstLaw
pub mod LastOperandToBoundary
pub mod OneInstCarries
pub mod ProperInsts
