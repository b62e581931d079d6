-- Definitions for the code generator: its main theorem, why it rejects a function, interpreters of procedures and of machine code (`Run`), and the text of
-- code (`Text`).
-- Read first: `BehavesAs` in `Behaves`, the theorem's conclusion; then `FrameSizes`, when the stack has room.
-- Depends on the interpreters of procedures (`Meaning`) and of machine code (`Machine`), on the code that is emitted (`Emitted`), and on regalloc2_function.
pub mod Compiled
pub mod Behaves
pub mod FrameSizes
pub mod Target
pub mod Reasons
pub mod Run
pub mod Text
