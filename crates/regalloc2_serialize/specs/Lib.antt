-- Stored functions, machines and outputs: what their numbers name, which are rejected and why, and their JSON shape.
-- Read first: `Decoded` (`NamesFunction`, `NamesMachine`), then `IsFaultOf` in `Validity`, then `JsonShape`. `Flat`:
-- words for C; `TableFunction`: a function kept in tables, and its builder. `Rewrite`: functions laid out anew.
-- Depends on regalloc2_function, and on the JSON values of serde_json.
pub mod CopyOfFunction
pub mod Decoded
pub mod Encoded
pub mod Flat
pub mod FromJson
pub mod JsonShape
pub mod Opcode
pub mod Rewrite
pub mod TableFunction
pub mod Tables
pub mod Validity
