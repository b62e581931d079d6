-- What the branches of a function define, and the blocks that store the definitions at their beginnings.
-- Read first: `BranchDefs` (`IsSite`, `IsStoredOperand`), then `AreBranchDefsOf` in `Tables`. `Notes`: one step.
-- Depends on `Live` of regalloc2_semantics for edges (`IsEdgeInto`), and on its `Debug` for the uses of a vreg.
pub mod BranchDefs
pub mod Notes
pub mod Tables
