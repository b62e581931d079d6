-- What the analyses of a function return: reads after writes, definitions of branches, live ranges of labelled vregs.
-- Read first: `BranchDefs/BranchDefs`, then `Liveness` and `LiveRanges`; none of the three needs another.
-- Depends on the function value and the tables of regalloc2_function and the paths of regalloc2_semantics.
pub mod BranchDefs
pub mod LiveRanges
pub mod Liveness
