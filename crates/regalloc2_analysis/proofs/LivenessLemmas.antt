-- `reads_written` returns whether each read and each argument is definitely assigned.
-- Read first: `IsNeeded` and `IsScoped` in the specs, then `never_needed` in `ScopedIsWritten`.
-- Depends on `IsDefinitelyAssigned` and `Cells` of regalloc2_semantics, and on `Blocks` of regalloc2_carry.
-- Main theorem: `decides` in `ReadsWrittenDecided`: every vreg is definitely assigned exactly where nothing is needed at the function's entry. `scoped_written`
-- and `needed_unwritten` in `StepsWalked` say so of what the walk over a tree and the search find; `none_listed` and `lists_none` in `PropagatedToFixpoint` of
-- the list that needs, passed on, end with. `never_needed` in `ScopedIsWritten`: what is clear at a step isn't needed there. `ChainCut`, `SitesKept` and
-- `StepsWalked` have the walk over the tree, `SearchedBack` the search. `walked_whole` in `LiveAtBlockBegin` has the upward-exposed uses of one block, and
-- `WalkSteps` its loops; `EdgeLists`, `PairLists` and `PairSets`: the lists of edges, the list of needs and the
-- sets of writes. `WritesNoted`: the table of the tree's walk. `NamesAndDefinitions`: one vreg or operand more.
pub mod LiveAtBlockBegin
pub mod PropagatedToFixpoint
pub mod ReadsWrittenDecided
pub mod WalkSteps
pub mod EdgeLists
pub mod NamesAndDefinitions
pub mod PairLists
pub mod PairSets
pub mod WritesNoted
pub mod ChainCut
pub mod ScopedIsWritten
pub mod SitesKept
pub mod StepsWalked
pub mod SearchedBack
