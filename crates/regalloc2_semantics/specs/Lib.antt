-- All that the theorem on the allocator speaks of, in reading order, and the laws over it.
-- `Runs`: paths and the two runs; `Faithful`: held values and faithful outputs; `Values`: numbers under an interpretation; `Places`: valid places,
-- slots and their owners; `Live`: live vregs; `Debug`: debug points and labels; `Fits`: instructions that fit.
-- `Laws` has lemmas on these. `Interpreters` and `Alike`: the theorem over two plain interpreters, for authors of code generators.
-- `Sound` serves the proofs of the laws.
-- Depends on regalloc2_function: functions, machines, outputs, well-formed functions. The allocator isn't mentioned.
pub mod Runs
pub mod Faithful
pub mod Values
pub mod Places
pub mod Live
pub mod Debug
pub mod Fits
pub mod Laws
pub mod Interpreters
pub mod Alike
pub mod Sound
