-- Definitions for the emitter of code.
-- Read first: `Pinned`, the machine's place for each of the allocator's; then `Emitted`, the code of each operation and move.
-- Depends on procedures and on the machine's instructions, both of codegen_machine, and on regalloc2_function.
pub mod Pinned
pub mod Emitted
