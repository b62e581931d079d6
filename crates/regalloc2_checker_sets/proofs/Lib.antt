-- The sets have the members that the contracts say, and saved copies the numbers.
-- Read first: `Bits`, the members of sets; then `Chunks`, the chunks of saved copies.
-- Depends on the specs. `Rows`, `Chunks` and `Written` are saved copies; `Lone`, `TwoSets`, `AllSets`, `Walked` and `Listed` are
-- sets; `Noted` is which sets were made of others; `MoreLaws` and `HomeLaws` are the places of one home, `MoreLists` and `HomeLists`
-- of all homes; `PlaceLaws` is where places are listed; `MovedDown` and `Renumbered` are sets that are dropped.
pub mod Walked
pub mod Bits
mod Rows
mod SavedChunks
mod Chunks
pub mod Listed
mod MoreLaws
mod MoreLists
pub mod HomeLaws
mod HomeLists
mod Lone
mod Noted
mod Passed
mod AllSets
mod MovedDown
mod Renumbered
pub mod TwoSets
mod PlaceLaws
mod Written
pub mod Results
