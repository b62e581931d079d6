-- The code that grows, item by item and block by block.
pub mod Emitting
