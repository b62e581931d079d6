use Rattle.std.proofs.Common.{arith, sym, subst}
use Rattle.std.specs.Prelude.{IsTrue}
use Rattle.std.specs.Int.{is_power_of_two}
use Rattle.regalloc2_serialize.proofs.ColumnsLemmas.Sizes.{power-of-two, power-small, power-positive, power-whole}
use Rattle.regalloc2_serialize.proofs.flat.columns.typed.units_of.Goals as goal

pub invariant_of-result : goal.invariant_of-result
invariant_of-result c = record {
  positive = omega (arith, power-whole c.args.log c.requires, power-positive c.args.log);
  at_most = omega (arith, power-whole c.args.log c.requires, power-small c.args.log c.requires);
  power_of_two = subst (λ n. IsTrue (is_power_of_two n)) (sym (power-whole c.args.log c.requires)) (power-of-two c.args.log);
}

pub returns : goal.returns
returns c = power-whole c.args.log c.requires
