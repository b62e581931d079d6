-- Whether a set has registers of a class.
use Rattle.std.proofs.Common.{ℕ, ◌≡◌, ◌<◌, Bool, true, false, refl, subst, arith, inl, inr}
use Rattle.std.specs.Prelude.{Option, nat_lt, is_none, ◌&&◌, if◌then◌else◌}
use Rattle.std.proofs.lemmas.Bool.{cases_Bool, lt-ltb, le-ltb}
use Rattle.regalloc2_names.specs.declared.RegClass.{RegClass}
use Rattle.regalloc2_names.specs.declared.sets.PRegSet.{PRegSet}
use Rattle.regalloc2_names.specs.Register.{Register, has_register}
use Rattle.regalloc2_semantics.specs.Fits.{register_number}
use Rattle.regalloc2_function.specs.Machine.{count_below}
use Rattle.regalloc2_fastalloc_state.specs.StateParts.{HasSmall}
use Rattle.regalloc2_fastalloc_state.proofs.CountingLaws.{count_none, some_count}

-- whether a set has a register of a class with a number below 64
abbrev pub has_some : PRegSet → RegClass → Bool
has_some s class = nat_lt 0 (count_below (λ n. has_register s (register_number class n)) 64)

-- a set that has one register with a number below 64 has some of its class
pub has_one : (s : PRegSet) (r : Register) → r.number < 64 → has_register s r ≡ true → has_some s r.class ≡ true
has_one s r lt h = lt-ltb 0 (count_below (λ n. has_register s (register_number r.class n)) 64)
    (some_count (λ n. has_register s (register_number r.class n)) 64 r.number lt h)

-- a set without registers of a class has none of it with a number below 64
pub none_there : (s : PRegSet) (class : RegClass) → ((r : Register) → r.class ≡ class → has_register s r ≡ false) → has_some s class ≡ false
none_there s class none =
    let zero_of = count_none (λ n. has_register s (register_number class n)) 64 (λ k lt. none (register_number class k) refl) in
    le-ltb 0 (count_below (λ n. has_register s (register_number class n)) 64) (omega (arith, zero_of))

-- a set of registers with numbers below 64 that isn't without registers of a class has some of it
pub some_there : (s : PRegSet) (class : RegClass) → HasSmall s → (((r : Register) → r.class ≡ class → has_register s r ≡ false) → ⊥) → has_some s class ≡ true
some_there s class small some = elim (cases_Bool (has_some s class)) [
  | inl is ↦ is
  | inr none ↦ absurd (some (λ r of_class. elim (cases_Bool (has_register s r)) [
    | inl h ↦ absurd (let e : has_some s class ≡ true = subst (λ (k : RegClass). has_some s k ≡ true) of_class (has_one s r (small r h) h) in cc)
    | inr h ↦ h
  ]))
]

-- how many registers are to be kept
abbrev pub one_if : Bool → Option Register → ℕ
one_if b o = if b && is_none o then 1 else 0

-- a class without fixed stack slots needs no scratch register in reserve
pub spare_none : (b : Bool) (o : Option Register) → b ≡ false → one_if b o ≡ 0
spare_none b o e = rw e refl

-- a class with a dedicated scratch register needs none in reserve
pub spare_kept : (b : Bool) (o : Option Register) → is_none o ≡ false → one_if b o ≡ 0
spare_kept true o e = rw e refl
spare_kept false o e = refl

-- a class with fixed stack slots and no dedicated scratch register needs one in reserve
pub reserve_is_one : (b : Bool) (o : Option Register) → b ≡ true → is_none o ≡ true → one_if b o ≡ 1
reserve_is_one b o e f = rw (e, f) refl
