-- Operand filters, the LRU list, the list of live vregs, and resolvers of parallel moves.
-- Read first: `AtOnce`, parallel moves; their resolvers, `Resolved` and `Computed`; `Ring`, `LiveList`, `Picked`.
-- Depends on regalloc2_names. `IsFewLinksApart` in `Links` bounds the links that change. `Giving`, `Tracking`, `Steps`, `RingNodes` and `VRegNodes` are private steps of these.
pub mod AtOnce
pub mod Callmoves
pub mod Computed
pub mod Cycles
pub mod Giving
pub mod Links
pub mod LiveList
pub mod Matching
pub mod MoveText
pub mod Parted
pub mod Picked
pub mod Resolved
pub mod Ring
pub mod RingNodes
pub mod ScratchPool
pub mod Steps
pub mod Tracking
pub mod VRegNodes
