-- Machine code as x86-64 assembly in AT&T syntax.
-- Read first: `Assembly`: `instruction_text` is the text of one instruction, `assembly_text` that of a procedure.
-- Depends on the types of the machine's instructions and of the operators alone.
pub mod Assembly
