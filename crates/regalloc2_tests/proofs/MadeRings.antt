-- Lists of distinct registers of one class, register by register.
use Rattle.std.proofs.Common.{◌≡◌, List, [], ◌∷◌, false, arith}
use Rattle.std.specs.List.{AllByRecursion, IsDistinct}
use Rattle.std.proofs.lemmas.List.Elements.{All-cons}
use Rattle.std.proofs.lemmas.Map.Keys.{IsDistinct-cons}
use Rattle.regalloc2_names.specs.declared.RegClass.{RegClass}
use Rattle.regalloc2_names.specs.Register.{Register, is_register}
use Rattle.regalloc2_parts.specs.Ring.{AreDistinctOf}

no_registers_distinct : IsDistinct is_register []
unfolding IsDistinct
no_registers_distinct = tt

-- no registers are a list of distinct registers of any class
pub no_registers : (class : RegClass) → AreDistinctOf class []
no_registers class = record { of_class = λ k d less. absurd (omega arith); distinct = no_registers_distinct }

-- distinct registers of a class, with one more of it in front that is none of them, are distinct registers of that
-- class
pub with_one_more : (class : RegClass) (r : Register) (regs : List Register) → r.class ≡ class → AllByRecursion (λ q. is_register r q ≡ false) regs →
    AreDistinctOf class regs → AreDistinctOf class (r ∷ regs)
with_one_more class r regs here apart rest = record {
  of_class = All-cons (λ (q : Register). q.class ≡ class) r regs here rest.of_class;
  distinct = IsDistinct-cons is_register r regs apart rest.distinct;
}
