use Rattle.std.specs.Prelude.{option_and_then}
use Rattle.std.proofs.Common.{inl, refl, ap, sym}
use Rattle.regalloc2_serialize.proofs.from_json.member_from.Goals as goal

pub returns-in_default-clause-ok : goal.returns-in_default-clause-ok
returns-in_default-clause-ok g c = tt

pub returns-in_default-clause-faults : goal.returns-in_default-clause-faults
returns-in_default-clause-faults g c = inl refl

pub returns-clause-ok : goal.returns-clause-ok
returns-clause-ok g c = rw (← c.in-Some.ensures) c.from_value.ensures.ok

pub returns-clause-shape : goal.returns-clause-shape
returns-clause-shape g c = rw (← c.in-Some.ensures) c.from_value.ensures.shape

pub returns-clause-faults : goal.returns-clause-faults
returns-clause-faults g c = c.from_value.ensures.faults

pub returns-in_default-clause-shape : goal.returns-in_default-clause-shape
returns-in_default-clause-shape g c = λ _. ap (option_and_then g.T.FromValue.reads) (sym c.in_default.ensures)
