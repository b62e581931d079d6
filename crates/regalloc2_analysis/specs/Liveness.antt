-- Which vregs an instruction needs: on some path they are read before they are written.
-- Read first: `IsNeeded` in `LiveIn`, then `IsScoped` in `Scopes`, a tree of blocks; `Propagation` follows edges.
-- Depends on definite assignment (`IsDefinitelyAssigned`) of regalloc2_semantics and on `Blocks` of regalloc2_carry.
pub mod Edges
pub mod BlockVRegPairs
pub mod Sites
pub mod LiveIn
pub mod Propagation
pub mod BlockWalk
pub mod Scopes
pub mod Search
