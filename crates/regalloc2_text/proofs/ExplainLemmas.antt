-- Lemmas on the texts of causes.
-- Read first: `Joined`, on texts of several pieces, which group to the left in a definition and to the right in a
-- format.
-- Depends on lists alone.
pub mod Joined
