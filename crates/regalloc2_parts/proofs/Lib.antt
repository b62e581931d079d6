-- Three parts with a theorem each: resolvers of parallel moves, the LRU list, the list of live vregs.
-- Read first: `rings_follow` in `Rings` and `given_whole` in `Whole`: moves one by one do what all do in parallel.
-- Depends on the specs, and on `EqualNames` of regalloc2_names.
-- Moves: `rings_follow` and `given_whole` are over `Chains`, `Following`, `Rounds` and `Orders`; `resolves_order` in
-- `Resolving` turns them round, `Tidying` and `Searching` make the list that is followed, `Counting` counts the
-- cycles. With scratch places: `computes_by_way` in `Computing`, over `Filling` and `Tracking` (`follows_all`: the
-- borrowed register is saved and restored); of a pool of scratch places: `made_with` in `ResolverContracts`. `Runs`,
-- `Lists` and `Places` serve all.
-- The lru: `poked_registers` in `RingRegisters`, over `RingLinks` (nodes), `NewRing` and `OldestFirst` (the walk to
-- the most recently used).
-- The list of vregs: `node_inserted` and `node_removed` in `VRegLinks`. Both rest on rings of links: `LinkRings`,
-- `Linked`, `LinksChanged`, `Numbers`. `Poked`, `MemberOut` and `RegisterLaws` are on lists of registers.
pub mod ByClass
pub mod CallmovesLemmas
pub mod Chains
pub mod Computing
pub mod Counting
pub mod Filling
pub mod Following
pub mod LinkRings
pub mod Linked
pub mod LinksChanged
pub mod Lists
pub mod MemberOut
pub mod NewRing
pub mod Numbers
pub mod OldestFirst
pub mod Orders
pub mod Places
pub mod Poked
pub mod RegisterLaws
pub mod ResolverContracts
pub mod Resolving
pub mod RingLinks
pub mod RingRegisters
pub mod Rings
pub mod Rounds
pub mod Runs
pub mod Searching
pub mod Tidying
pub mod Tracking
pub mod VRegLinks
pub mod Whole
