-- Lemmas on listings and on machines; the tests of blocks and definitions, the order of a depth-first walk, and sets of
-- numbers are as defined. Each serves a test of this crate.
-- Read first: `Keeps` in `TableKeepsDefs`, what the table of definitions keeps.
-- Depends on the specs. `ListingLaws`, `OrderLaws` and `Steps` are on listings; `Misfits` and `Tests` on machines; `Copies` on stored outputs.
-- Definitions and uses: `noted_once`, `usable_uses`, `taken_fault` and `unusable_fault` in `TableDecidesSSA`: the
-- table of definitions decides both tests, and names the first failure. `ListingsOfFunction` and `DefsCounted` join
-- the listings with the function; `NotedInParts`, `ListsInParts` and `ListMembers` serve loops. `ErrorOnlyOutOfMemory`
-- is the case without failure.
-- Tables by number: `room_above` and `short_above` in `TableLengths`.
-- Blocks: `PredsListed` (`all_ways_end`), `PredsInOrder` (`order_agrees`), `TimesInList`, `BlockRanges`,
-- `TablesByBlock`.
-- The order: `leaves_once` and `leaves_reached` in `LeavesReached`; `walked_end` in `DepthFirstWalk`, whose invariant
-- is `Walked`; `NamedBlocks` for what has to be a block.
-- Sets: `NumberSets`, over `NumberMaps` and `NumberIndexes` (words by key), `NumberBits` (members of a word) and
-- `NumberUnions`; `WordsWritten`, what a write does to two lists of words.
pub mod Steps
pub mod ListingLaws
pub mod Tests
pub mod OrderLaws
pub mod Misfits
pub mod Copies
pub mod ListsInParts
pub mod NotedInParts
pub mod BlockRanges
pub mod DefsCounted
pub mod ListMembers
pub mod TableKeepsDefs
pub mod ListingsOfFunction
pub mod TableLengths
pub mod TableDecidesSSA
pub mod ErrorOnlyOutOfMemory
pub mod TimesInList
pub mod PredsListed
pub mod PredsInOrder
pub mod TablesByBlock
pub mod NamedBlocks
pub mod DepthFirstWalk
pub mod LeavesReached
pub mod NumberIndexes
pub mod NumberBits
pub mod NumberMaps
pub mod NumberSets
pub mod NumberUnions
pub mod WordsWritten
pub mod Following
