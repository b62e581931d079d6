-- Registers, vregs, operands, places, program points and register sets as values, with their encodings and texts.
-- Read first: `Register` (and sets), `Place` (and program points), `Operand`; then `Packing`, `PlaceBits`, `RegisterBits`.
-- Depends on std alone.
pub mod Register
pub mod RegisterBits
pub mod Place
pub mod PlaceBits
pub mod Operand
pub mod Packing
pub mod OperandUnion
pub mod Same
pub mod SameSet
pub mod Collected
pub mod Listed
pub mod ErrorKind
pub mod Text
