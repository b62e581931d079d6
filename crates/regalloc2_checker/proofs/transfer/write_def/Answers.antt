use Rattle.std.proofs.Common.{◌∙◌, sym, refl}
use Rattle.regalloc2_checker.proofs.transfer.write_def.Goals as goal

pub returns-then-not-is_def-clause-now : goal.returns-then-not-is_def-clause-now
returns-then-not-is_def-clause-now g c = rw (sym c.is_def.ensures ∙ c.if-not-is_def.true) refl

pub returns-clause-now : goal.returns-clause-now
returns-clause-now g c = rw (sym c.is_def.ensures ∙ c.if-not-is_def.false, ← c.place_at.ensures, ← c.vreg.ensures) c.in_ok-write_one.ensures.now

pub write_one-requires-clause-listed : goal.write_one-requires-clause-listed
write_one-requires-clause-listed g c = rw c.place_at.ensures c.requires.listed

pub write_one-requires-clause-vreg : goal.write_one-requires-clause-vreg
write_one-requires-clause-vreg g c = rw c.vreg.ensures c.requires.vreg
