-- Lemmas on encodings, register sets and the equality of names.
-- Read first: `EqualNames`, which other crates cite: two names are equal exactly if the test accepts them.
-- Depends on the specs. `Bits`, `Words`, `LimitBits`: packed fields. `OperandUnions`: several operands' encodings. `SetBits`, `Members`, `Counted`, `Highest`,
-- `EmptyWord`, `SameSets`: sets. `ErrorNumbers`, `TextLaws`: errors and texts.
pub mod Bits
pub mod SetBits
pub mod Members
pub mod Words
pub mod LimitBits
pub mod OperandUnions
pub mod EmptyWord
pub mod ErrorNumbers
pub mod TextLaws
pub mod Counted
pub mod Highest
pub mod EqualNames
pub mod SameSets
