use Rattle.std.proofs.Common.{refl}
use Rattle.std.proofs.lemmas.Bool.{false≢true}
use Rattle.regalloc2_serialize.proofs.flat.columns.cut.Cut.test.Goals as goal

pub returns-then-not-is_covered : goal.returns-then-not-is_covered
returns-then-not-is_covered c = record { ok = tt; refused = (c.requires, λ h. false≢true (c.if-not-is_covered.ensures.1 h)) }

pub returns-then-not-is_within : goal.returns-then-not-is_within
returns-then-not-is_within c = record {
  ok = tt;
  refused = (c.requires, c.if-not-is_covered.ensures.0 refl, λ h. false≢true (c.if-not-is_within.ensures.1 h));
}

pub returns-then-not-names_all : goal.returns-then-not-names_all
returns-then-not-names_all c = record {
  ok = tt;
  refused = (
    c.requires,
    c.if-not-is_covered.ensures.0 refl,
    c.if-not-is_within.ensures.0 refl,
    λ h. false≢true (c.if-not-names_all.ensures.1 h),
  );
}

pub returns-then-not-is_limited : goal.returns-then-not-is_limited
returns-then-not-is_limited c = record {
  ok = tt;
  refused = (
    c.requires,
    c.if-not-is_covered.ensures.0 refl,
    c.if-not-is_within.ensures.0 refl,
    c.if-not-names_all.ensures.0 refl,
    λ h. false≢true (c.if-not-is_limited.ensures.1 h),
  );
}

pub returns : goal.returns
returns c = record {
  ok = record {
    laid_out = c.requires;
    covered = c.if-not-is_covered.ensures.0 refl;
    within = c.if-not-is_within.ensures.0 refl;
    names = c.if-not-names_all.ensures.0 refl;
    limits = c.if-not-is_limited.ensures.0 refl;
  };
  refused = tt;
}
