-- Lemmas on functions in columns: the parts that are kept, where columns begin, bounds, and sets from bits.
-- Read first: `block-of` in `Kept`.
pub mod Kept
pub mod Bits
pub mod Starts
pub mod Sizes
pub mod Made
pub mod More
