-- Lemmas on both runs, for the laws: a read finds an earlier write, and reads agree exactly if numbers do.
-- Read first: `RunLaws`; then `ValueLaws` and `Converse`, the two directions. `UsesReadEarlierDefs`: in a well-formed function each use
-- finds a write of an earlier step. `Faithful`: from reads that agree to a faithful output. `ValuesLemmas`: the two interpreters run alike.
-- `Soundness`: what a well-formed function gives. `AfterWrites` and `Cells` (maps changed at one place or vreg) serve all, and `Given`
-- (where a vreg gets no value) serves the crates above.
pub mod Cells
pub mod AfterWrites
pub mod Given
pub mod RunLaws
pub mod ValueLaws
pub mod Converse
pub mod Soundness
pub mod UsesReadEarlierDefs
pub mod Faithful
pub mod ValuesLemmas
