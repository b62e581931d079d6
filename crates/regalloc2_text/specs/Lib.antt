-- Texts: how much of a line a cursor has left to read, on which line an error is, errors by number (`Refusal`,
-- `StoredFault`) with their causes (`Explain`), the texts of errors in texts (`TextErrors`) and of program points
-- (`Point`).
-- Read first: `Cursor/Cursor`, then `Cursor/Lines`.
-- Depends on regalloc2_names and regalloc2_function (texts of errors), and on the types of this crate.
pub mod Cursor
pub mod Explain
pub mod Point
pub mod Refusal
pub mod StoredFault
pub mod TextErrors
