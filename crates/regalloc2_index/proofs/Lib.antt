-- Lemmas on Booleans, numbers, lists and walks over ranges that proofs of many crates share.
-- Read first: `Bools`; each lemma is one that std's `lemmas.Bool`, `lemmas.List` and `lemmas.Nat` lack.
-- Depends on std, and `RangeWalks` on the specs of ranges.
pub mod Bools
pub mod Numbers
pub mod RangeWalks
