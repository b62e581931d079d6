-- The walk's state as values: locations, spill slots, allocatable registers, edits, the registers of one instruction.
-- `Validate`: which functions the allocator takes, and the first error of the others.
-- Read first: `StateParts`, then `InstRegs`; `chosen` in `Choice` is the register that the allocator takes.
-- Depends on regalloc2_names, on `Machine` and `Fitting` of regalloc2_function, on `Fits` of
-- regalloc2_semantics, and on the LRU list of regalloc2_parts.
pub mod Choice
pub mod ClassLrus
pub mod FilledRegs
pub mod InstRegs
pub mod Masks
pub mod OutOfResources
pub mod Positions
pub mod ScratchPool
pub mod StateParts
pub mod Validate
