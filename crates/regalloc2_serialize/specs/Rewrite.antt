-- A function with its blocks in another order, and one with a block on each critical edge: which they are, and why
-- they aren't made.
-- Read first: `IsRenumbered` in `Renumbered`, `HasSplitEdges` in `SplitEdges`. `Laid`: functions of partial blocks;
-- `Rewritten`: what both share.
-- Depends on blocks of regalloc2_function, paths of regalloc2_semantics, and on `TableFunction`.
pub mod Laid
pub mod Renumbered
pub mod RewriteText
pub mod Rewritten
pub mod SplitEdges
