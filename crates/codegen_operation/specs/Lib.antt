-- Operations on 64-bit integers, and their operands and clobbers.
-- Read first: `Numbers`, the results of operators, and the conditions; then `Operands`, what the allocator reads.
-- Depends on operands of regalloc2_names.
pub mod Numbers
pub mod Operands
pub mod Once
