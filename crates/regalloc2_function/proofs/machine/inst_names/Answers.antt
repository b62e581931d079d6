use Rattle.std.proofs.Common.{◌≡◌, false, rules, tests}
use Rattle.std.proofs.lemmas.Iterator.{cases_from_any, YieldsList-from_slice}
use Rattle.regalloc2_names.specs.Operand.{OperandValue, is_fixed_nonallocatable}
use Rattle.regalloc2_names.specs.declared.RegClass.{RegClass}
use Rattle.regalloc2_function.proofs.Tests.{any_or_not}
use Rattle.regalloc2_function.proofs.machine.inst_names.Goals as goal

abbrev Names : RegClass → OperandValue → Type 0
Names class o = (is_fixed_nonallocatable o ≡ false) × (o.vreg.class ≡ class)

pub returns : goal.returns
returns g c =
    let operands = c.inst_operands.result.now in
    rw (← c.inst_operands.ensures) (any_or_not (Names c.args.class) _ operands (cases_from_any _ _ _ (Names c.args.class) (λ o. Names c.args.class o → ⊥)
    c.any.ensures.ran (YieldsList-from_slice operands c.iter.ensures.rest) (λ x q k. search (rules, tests)) (λ x q k. search (rules, tests))))
