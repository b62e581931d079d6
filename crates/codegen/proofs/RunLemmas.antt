-- Lemmas for the interpreters: the effect of one more step on a run, and when a run has ended.
-- Read first: `Stands` (`run_more`, `run_ends`, `machine_more`) and `Modules`, the same for modules and their code, with stacks of frames; `Written` passes
-- arguments over an edge one by one.
-- `Stacks` has the words that activations take. Depends on `Runs` and `States` of the specs, and on the steps in `Meaning`, `Machine` and the two files `Calls`.
pub mod Stands
pub mod Written
pub mod Modules
pub mod Stacks
