-- How much of a line is left to read, and on which line an error lies.
-- Read first: `tokens_left` in `Cursor`, then `IsOnLineBetween` in `Lines`.
-- Depends on the types of cursors and of text errors alone.
pub mod Cursor
pub mod Lines
