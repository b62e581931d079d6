-- Lemmas for decoding and encoding: stored numbers name one function, and an encoded function passes the tests.
-- Read first: `function-named` in `SameNames`, `sound` in `Storable`, `kept-whole` in `Whole`. `FlatLemmas`,
-- `ColumnsLemmas`, `TableFunctionLemmas` and `RewriteLemmas` are apart.
-- Depends on the specs. `Lists`, `FilledLists`, `EncodedLists`, `Indexes` and `Blocks` are loops over lists, `Chains`
-- are tests joined by `&&`.
pub mod Blocks
pub mod Chains
pub mod ColumnsLemmas
pub mod EncodedLists
pub mod FilledLists
pub mod FlatLemmas
pub mod Given
pub mod Indexes
pub mod Lists
pub mod RewriteLemmas
pub mod SameNames
pub mod Storable
pub mod TableFunctionLemmas
pub mod Whole
