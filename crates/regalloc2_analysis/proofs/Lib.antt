-- Each analysis returns what its spec says.
-- Read first: the head of each folder; none of the three needs another.
-- `MadeTables` and `MarkedItems` serve the first two: tables of one element, and the numbers of one item after another marked in a table.
-- Depends on the specs beside it, on the tables of regalloc2_function and on lemmas of regalloc2_semantics and regalloc2_carry.
pub mod MadeTables
pub mod MarkedItems
pub mod BranchDefsLemmas
pub mod LiveRangesLemmas
pub mod LivenessLemmas
