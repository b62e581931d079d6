use Rattle.std.proofs.lemmas.Bool.{false≢true}
use Rattle.std.proofs.Common.{◌∙◌, sym}
use Rattle.regalloc2_serialize.proofs.data.StoredFunction.test.Goals as goal

pub returns-clause-refused : goal.returns-clause-refused
returns-clause-refused g c = tt

pub returns-then-not-has_equal_lengths-clause-ok : goal.returns-then-not-has_equal_lengths-clause-ok
returns-then-not-has_equal_lengths-clause-ok g c = tt

pub returns-then-not-is_within-clause-ok : goal.returns-then-not-is_within-clause-ok
returns-then-not-is_within-clause-ok g c = tt

pub returns-then-not-names_all-clause-ok : goal.returns-then-not-names_all-clause-ok
returns-then-not-names_all-clause-ok g c = tt

pub returns-then-not-keeps_limits-clause-ok : goal.returns-then-not-keeps_limits-clause-ok
returns-then-not-keeps_limits-clause-ok g c = tt

pub returns-then-not-has_equal_lengths-clause-refused : goal.returns-then-not-has_equal_lengths-clause-refused
returns-then-not-has_equal_lengths-clause-refused g c = λ h. absurd (false≢true (sym c.if-not-has_equal_lengths.true ∙ c.has_equal_lengths.ensures.1 h))

pub returns-then-not-is_within-clause-refused : goal.returns-then-not-is_within-clause-refused
returns-then-not-is_within-clause-refused g c = (
  c.has_equal_lengths.ensures.0 c.if-not-has_equal_lengths.false,
  λ h. absurd (false≢true (sym c.if-not-is_within.true ∙ c.is_within.ensures.1 h)),
)

pub returns-clause-ok : goal.returns-clause-ok
returns-clause-ok g c = record {
  lengths = c.has_equal_lengths.ensures.0 c.if-not-has_equal_lengths.false;
  within = c.is_within.ensures.0 c.if-not-is_within.false;
  names = c.names_all.ensures.0 c.if-not-names_all.false;
  limits = c.keeps_limits.ensures.0 c.if-not-keeps_limits.false;
}

pub returns-then-not-names_all-clause-refused : goal.returns-then-not-names_all-clause-refused
returns-then-not-names_all-clause-refused g c = (
  c.has_equal_lengths.ensures.0 c.if-not-has_equal_lengths.false,
  c.is_within.ensures.0 c.if-not-is_within.false,
  λ h. absurd (false≢true (sym c.if-not-names_all.true ∙ c.names_all.ensures.1 h)),
)

pub returns-then-not-keeps_limits-clause-refused : goal.returns-then-not-keeps_limits-clause-refused
returns-then-not-keeps_limits-clause-refused g c = (
  c.has_equal_lengths.ensures.0 c.if-not-has_equal_lengths.false,
  c.is_within.ensures.0 c.if-not-is_within.false,
  c.names_all.ensures.0 c.if-not-names_all.false,
  λ h. absurd (false≢true (sym c.if-not-keeps_limits.true ∙ c.keeps_limits.ensures.1 h)),
)
