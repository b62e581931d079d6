-- Definitions for this crate's own loops. No public contract rests on them.
-- `Definitions`: the table that decides single definitions; `Ways`: the lists of predecessors; `DepthFirst`: a walk's beginning;
-- `TableLength`: how long a table by number is; `MarkedNumbers`; `NumberWords`: words by keys that differ;
-- `NamedClasses`: classes of arguments.
pub mod Definitions
pub mod Ways
pub mod DepthFirst
pub mod TableLength
pub mod MarkedNumbers
pub mod NumberWords
pub mod NamedClasses
