-- The greatest register of a set that has the allocatable registers of one class.
use Rattle.std.proofs.Common.{ℕ, ◌≡◌, ◌<◌, ◌≤◌, ◌+◌, ◌*◌, Bool, true, false, arith, refl, sym, ap, ◌∙◌}
use Rattle.std.specs.Prelude.{Option, None, Some, IfSome, IfNone, IsNone, ◌↔◌, slice_index}
use Rattle.regalloc2_names.specs.declared.RegClass.{RegClass}
use Rattle.regalloc2_names.specs.declared.sets.PRegSet.{PRegSet}
use Rattle.regalloc2_names.specs.Listed.{has_register-small}
use Rattle.regalloc2_names.specs.Register.{Register, class_code, has_register}
use Rattle.regalloc2_names.specs.RegisterBits.{bits_of_register}
use Rattle.regalloc2_fastalloc_state.specs.StateParts.{NoneIsFrom}

-- the register found is an allocatable one of the class
pub greatest_in : (set allocatable : PRegSet) (class : RegClass) (result : Option Register) → ((i : ℕ) → slice_index set.bits i < 18446744073709551616)
    → ((r : Register) → (has_register set r ≡ true) ↔ ((r.class ≡ class) × (has_register allocatable r ≡ true)))
    → IfSome result (λ r. has_register set r ≡ true) → IfSome result (λ r. (r.class ≡ class) × (r.number < 64) × (has_register allocatable r ≡ true))
greatest_in set allocatable class None fits same member = tt
greatest_in set allocatable class (Some m) fits same member = let h = (same m).0 member in (h.0, has_register-small set fits m member, h.1)

-- none of the class has a greater number
pub none_above : (set allocatable : PRegSet) (class : RegClass) (result : Option Register)
    → ((r : Register) → (has_register set r ≡ true) ↔ ((r.class ≡ class) × (has_register allocatable r ≡ true)))
    → IfSome result (λ r. has_register set r ≡ true)
    → IfSome result (λ m. (r : Register) → has_register set r ≡ true → bits_of_register r ≤ bits_of_register m)
    → IfSome result (λ r. NoneIsFrom allocatable class (r.number + 1))
none_above set allocatable class None same member greatest = tt
none_above set allocatable class (Some m) same member greatest = λ r of above small. by_test (has_register allocatable r) r refl of above
  where
    by_test : (b : Bool) (r : Register) → has_register allocatable r ≡ b → r.class ≡ class → m.number + 1 ≤ r.number → b ≡ false
    by_test false r e of above = refl
    by_test true r e of above =
        let low : class_code r.class * 64 + r.number ≤ class_code m.class * 64 + m.number = greatest r ((same r).1 (of, e)) in
        let one : class_code r.class ≡ class_code m.class = ap class_code (of ∙ sym ((same m).0 member).0) in
        absurd (omega (arith, low, one, above))

-- where there is none, none of the class may be allocated
pub none_of_class : (set allocatable : PRegSet) (class : RegClass) (result : Option Register)
    → ((r : Register) → (has_register set r ≡ true) ↔ ((r.class ≡ class) × (has_register allocatable r ≡ true)))
    → (IsNone result ↔ ((r : Register) → has_register set r ≡ false)) → IfNone result (NoneIsFrom allocatable class 0)
none_of_class set allocatable class (Some m) same none = tt
none_of_class set allocatable class None same none = λ r of above small. by_test (has_register allocatable r) r refl of
  where
    by_test : (b : Bool) (r : Register) → has_register allocatable r ≡ b → r.class ≡ class → b ≡ false
    by_test false r e of = refl
    by_test true r e of = let a = (none.0 refl) r in let b = (same r).1 (of, e) in cc
