-- Lemmas for functions that are laid out anew: they are structurally valid, have the same paths, and no critical edge
-- if edges are split.
-- Read first: `renumbered` in `RenumberLaws` and `is-split` in `SplitLaws`; then `SamePaths`, `SplitPaths`,
-- `LaidLaws`, `PredCounts`.
-- Depends on the specs. `Marks`, `SplitSteps`: loops; `EdgeLists`, `SplitDrafts`: the numbers of new blocks;
-- `WayCounts`, `SplitPreds`: ways into blocks.
pub mod EdgeLists
pub mod LaidLaws
pub mod Lists
pub mod Marks
pub mod Numbers
pub mod OrderCounts
pub mod PredCounts
pub mod RenumberLaws
pub mod SamePaths
pub mod SplitDrafts
pub mod SplitInsts
pub mod SplitLaws
pub mod SplitPaths
pub mod SplitPreds
pub mod SplitSteps
pub mod WayCounts
