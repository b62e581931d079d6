-- What the allocator tests first: the constraints of operands.
-- Read first: `Constraints`, one instruction at a time; `NoLimits`: no limits.
-- Depends on `WellFormed` and `Reasons` of regalloc2_function.
pub mod Constraints
pub mod NoLimits
