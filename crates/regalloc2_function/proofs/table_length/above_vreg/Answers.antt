use Rattle.std.proofs.Common.{◌+◌, inl, inr, arith}
use Rattle.std.proofs.lemmas.Bool.{cases_lt}
use Rattle.regalloc2_function.proofs.table_length.above_vreg.Goals as goal

pub returns-clause-near : goal.returns-clause-near
returns-clause-near c = elim (cases_lt c.args.bound (c.args.vreg.number + 1)) [
  | inl lt ↦ inr (omega (arith, c.max.ensures, c.vreg-number.ensures.number, lt))
  | inr le ↦ inl (omega (arith, c.max.ensures, c.vreg-number.ensures.number, le))
]
