-- Runs of a procedure and of its code from given arguments, and the states that the two interpreters keep.
-- Read first: `Runs` (`first_state`, `first_machine`); `States` maps the interpreters' states to states of the definitions.
-- Depends on the interpreters of procedures (`Meaning`) and of machine code (`Machine`).
pub mod Runs
pub mod States
