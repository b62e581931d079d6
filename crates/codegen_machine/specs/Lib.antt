-- Procedures over 64-bit integers: what they compute (`Meaning`), the allocator's view of each, its function (`Seen`), and modules of them (`Modules`,
-- `Frames`). The target machine (`Machine`), and its calls and returns (`Calls`). The texts of errors (`ErrorText`).
-- Read first: `Meaning`, the interpreter of a procedure; `Seen`: `function_of_procedure`; then `Machine`: `machine_step` is one step, `machine_run` a run.
-- Depends on codegen_operation: `Numbers`, the arithmetic of 64-bit integers, and `Operands`; on functions of regalloc2_function.
pub mod Successors
pub mod Seen
pub mod Meaning
pub mod Modules
pub mod ErrorText
pub mod Frames
pub mod Machine
pub mod Calls
