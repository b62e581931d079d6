-- The moves of one call: which are valid, their scratch resources, and the scheduled moves.
-- Read first: `CallMoves`: `IsScheduled` is the result, `IsCallFault` the first error, `IsLent` the scratch resources.
-- `Frame`: the free registers and the slots of a frame, by index. Depends on parallel moves (`AtOnce`) and their resolver (`Computed`) of regalloc2_parts.
pub mod CallMoves
pub mod Frame
