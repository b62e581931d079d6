-- Lemmas for reading and writing words: which words begin no value, and which values have a number above 32 bits.
-- Read first: `NoValue` (`no_list`, `left_over`), then `LongWords` (`long_in_list`).
-- Depends on `Flat` of the specs.
pub mod NoValue
pub mod LongWords
