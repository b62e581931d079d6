-- Lemmas for tables and the builder: blocks are laid out one after another, and each edge adds a predecessor; what is
-- read of a table.
-- Read first: `built_blocks`, `built_preds`, `built_succs` in `BuiltLaws`; then `PredLaws`; `DraftLaws`: one block.
-- Depends on `Built`, `Draft` and `Steps` of the specs.
pub mod DraftLaws
pub mod PredLaws
pub mod BuiltLaws
pub mod ReadLaws
