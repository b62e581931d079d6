-- The layout of functions and outputs as 32-bit words, and where the words of an output end.
-- Read first: `Columns` (`IsLaidOutAs`), and `output_words` in `Flat`; `OneRest` and `RecordsRest` say where an
-- output's words end.
-- Depends on the function's value and the stored output of regalloc2_function.
pub mod Columns
pub mod Flat
pub mod OneRest
pub mod RecordsRest
