use Rattle.std.proofs.Common.{◌≡◌, rules, tests}
use Rattle.std.proofs.lemmas.Iterator.{cases_from_any, YieldsList-from_slice}
use Rattle.regalloc2_names.specs.Register.{VirtualRegister}
use Rattle.regalloc2_names.specs.declared.RegClass.{RegClass}
use Rattle.regalloc2_function.proofs.Tests.{any_or_not}
use Rattle.regalloc2_function.proofs.machine.vregs_name.Goals as goal

abbrev IsOf : RegClass → VirtualRegister → Type 0
IsOf class v = v.class ≡ class

pub returns : goal.returns
returns c = any_or_not (IsOf c.args.class) _ c.args.vregs.now (cases_from_any _ _ _ (IsOf c.args.class) (λ v. IsOf c.args.class v → ⊥) c.any.ensures.ran
    (YieldsList-from_slice c.args.vregs.now c.iter.ensures.rest) (λ x q k. search (rules, tests)) (λ x q k. search (rules, tests)))
