-- Lemmas on texts. `ExplainLemmas`: texts of causes.
-- Read first: `Joined` there.
-- Depends on lists alone.
pub mod ExplainLemmas
