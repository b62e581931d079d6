-- How many registers are free when one is taken, and what is needed then.
use Rattle.std.proofs.Common.{ℕ, ◌≡◌, ◌+◌, ◌<◌, ◌≤◌, Bool, true, false, List, refl, sym, ap, ◌∙◌, subst, arith, set}
use Rattle.std.specs.Prelude.{not, ◌&&◌, nat_lt, is_none, if◌then◌else◌, Option, None, Some, slice_index_or}
use Rattle.std.proofs.lemmas.Bool.{lt-ltb, false_from_ne_true, and_from, and_parts}
use Rattle.regalloc2_names.specs.declared.RegClass.{RegClass}
use Rattle.regalloc2_names.specs.declared.sets.PRegSet.{PRegSet}
use Rattle.regalloc2_names.specs.Register.{Register, class_code, is_register, has_register}
use Rattle.regalloc2_semantics.proofs.Cells.{is_register-true}
use Rattle.regalloc2_semantics.specs.Fits.{register_number}
use Rattle.regalloc2_function.specs.Machine.{count_below}
use Rattle.regalloc2_fastalloc_state.specs.declared.inst_regs.InstRegs.{InstRegs}
use Rattle.regalloc2_fastalloc_state.specs.declared.positions.Positions.{Positions}
use Rattle.regalloc2_fastalloc_state.specs.StateParts.{needs_scratch_reserve}
use Rattle.regalloc2_fastalloc_state.specs.InstRegs.{RemovesAvailable, is_free, free_count}
use Rattle.regalloc2_fastalloc_state.proofs.CountingLaws.{count_le, count_but_one, count_some, some_count}
use Rattle.regalloc2_fastalloc_proofs.specs.InstSteps.{StateValue, scratch_reserve_left}
use Rattle.regalloc2_fastalloc_proofs.specs.Pressure.EnoughRegs.{HasEnoughRegs, TakesAtMost}
use Rattle.regalloc2_fastalloc_proofs.proofs.Safety.StepsKeepMachine.{KeepsMachine}

-- two registers that differ
pub other_register : (a b : Register) → (a ≡ b → ⊥) → is_register a b ≡ false
other_register a b ne = false_from_ne_true (is_register a b) (λ e. ne (is_register-true a b e))

-- a register that is free and isn't the one that was taken is free
stays_free : (set : PRegSet) (by q : Register) (t u : InstRegs) → TakesAtMost by t u → is_register by q ≡ false → is_free set t q ≡ true
    → is_free set u q ≡ true
stays_free set by q t u l other h =
    let in_set : has_register set q ≡ true = (and_parts (has_register set q) _ h).0 in
    let both = (and_parts (has_register set q) _ h).1 in
    and_from (has_register set q) (has_register u.early q && has_register u.late q) in_set
    (and_from (has_register u.early q) (has_register u.late q) (l.early q other ∙ (and_parts (has_register t.early q) _ both).0)
    (l.late q other ∙ (and_parts (has_register t.early q) _ both).1))

-- at most that register is no longer free
pub free_but_one : (set : PRegSet) (by : Register) (t u : InstRegs) (c : RegClass) → TakesAtMost by t u → free_count set t c ≤ free_count set u c + 1
free_but_one set by t u c l = count_but_one (λ n. is_free set t (register_number c n)) (λ n. is_free set u (register_number c n)) by.number 64
    (λ k lt ne h. stays_free set by (register_number c k) t u l (other_register by (register_number c k) (λ e. ne (sym (ap (λ (r : Register). r.number) e)))) h)

-- no free register of a class is lost if the register taken wasn't free, or is of another class
pub free_kept : (set : PRegSet) (by : Register) (t u : InstRegs) (c : RegClass) → TakesAtMost by t u → (by.class ≡ c → is_free set t by ≡ false) →
    free_count set t c ≤ free_count set u c
free_kept set by t u c l unfree = count_le (λ n. is_free set t (register_number c n)) (λ n. is_free set u (register_number c n)) 64
    (λ k lt h. stays_free set by (register_number c k) t u l (other_register by (register_number c k) (λ e.
    let same : by.class ≡ c = ap (λ (r : Register). r.class) e in
    let gone : is_free set t by ≡ false = unfree same in
    let there : is_free set t by ≡ true = subst (λ (r : Register). is_free set t r ≡ true) (sym e) h in cc)) h)

-- where registers are held
pub holds_loses : (by : Register) (p : Positions) (t u : InstRegs) → RemovesAvailable t u by p → TakesAtMost by t u
holds_loses by p t u h = record {
  early = λ q e. h.early q ∙ by_test p.early (is_register by q) (has_register t.early q) e;
  late = λ q e. h.late q ∙ by_test p.late (is_register by q) (has_register t.late q) e;
}
  where
    by_test : (a b c : Bool) → b ≡ false → (not (a && b) && c) ≡ c
    by_test true b c e = rw e refl
    by_test false b c e = refl

-- instruction registers with the same sets and the same scratch registers
pub ample_same : (Named : RegClass → Type 0) (needed : RegClass → ℕ) (t u : InstRegs) (old new : StateValue) → u.early ≡ t.early → u.late ≡ t.late →
    u.scratch ≡ t.scratch → KeepsMachine old new → HasEnoughRegs Named needed t old → HasEnoughRegs Named needed u new
ample_same Named needed t u old new e l s m h c named = rw (e, l, s, m.allocatable, m.fixed_stack, m.dedicated_scratch) (h c named)

-- the machine's registers stay
pub ample_kept : (Named : RegClass → Type 0) (needed : RegClass → ℕ) (u : InstRegs) (old new : StateValue) → KeepsMachine old new →
    HasEnoughRegs Named needed u old → HasEnoughRegs Named needed u new
ample_kept Named needed u old new m h c named = rw (m.allocatable, m.fixed_stack, m.dedicated_scratch) (h c named)

-- nothing changes
pub ample_none : (Named : RegClass → Type 0) (needed : RegClass → ℕ) (t u : InstRegs) (old new : StateValue) → u ≡ t → new ≡ old →
    HasEnoughRegs Named needed t old → HasEnoughRegs Named needed u new
ample_none Named needed t u old new eu en h = subst (λ (y : InstRegs). HasEnoughRegs Named needed y new) (sym eu)
    (subst (HasEnoughRegs Named needed t) (sym en) h)

-- less is needed
pub ample_less : (Named : RegClass → Type 0) (needed less : RegClass → ℕ) (u : InstRegs) (t : StateValue) → ((c : RegClass) → less c ≤ needed c) →
    HasEnoughRegs Named needed u t → HasEnoughRegs Named less u t
ample_less Named needed less u t fewer h c named = (let a = h c named in let b = fewer c in omega (arith, a, b))

-- if some registers are needed, or a scratch register is reserved, one is free
pub ample_some : (Named : RegClass → Type 0) (needed : RegClass → ℕ) (u : InstRegs) (t : StateValue) (c : RegClass) → Named c →
    0 < needed c + scratch_reserve_left t.fixed_stack t.dedicated_scratch u c → HasEnoughRegs Named needed u t
    → (n : ℕ) × (n < 64) × (is_free t.allocatable u (register_number c n) ≡ true)
ample_some Named needed u t c named some h =
    let enough = h c named in
    count_some (λ n. is_free t.allocatable u (register_number c n)) 64 (omega (arith, some, enough))

-- a class with a fixed stack slot
abbrev pub HasStack : PRegSet → RegClass → Type 0
HasStack stack c = nat_lt 0 (count_below (λ n. has_register stack (register_number c n)) 64) ≡ true

-- a class of which some register is a fixed stack slot has a fixed stack slot
pub has_stack : (stack : PRegSet) (r : Register) → r.number < 64 → has_register stack r ≡ true → HasStack stack r.class
has_stack stack r lt h =
    lt-ltb 0 (count_below (λ n. has_register stack (register_number r.class n)) 64)
    (some_count (λ n. has_register stack (register_number r.class n)) 64 r.number lt h)

-- the register reserved for stack-to-stack moves, if there are fixed stack slots and none was taken
pub scratch_reserve_is_one : (stack : PRegSet) (dedicated_scratch : List (Option Register)) (u : InstRegs) (c : RegClass) →
    nat_lt 0 (count_below (λ n. has_register stack (register_number c n)) 64) ≡ true
    → slice_index_or dedicated_scratch (class_code c) None ≡ None → slice_index_or u.scratch (class_code c) None ≡ None
    → scratch_reserve_left stack dedicated_scratch u c ≡ 1
scratch_reserve_is_one stack dedicated_scratch u c some none unset = rw (some, none, unset) refl

-- a class whose scratch register is taken reserves no further one
pub spare_is_none : (stack : PRegSet) (dedicated_scratch : List (Option Register)) (u : InstRegs) (c : RegClass) (by : Register) →
    slice_index_or u.scratch (class_code c) None ≡ Some by → scratch_reserve_left stack dedicated_scratch u c ≡ 0
spare_is_none stack dedicated_scratch u c by is = rw is (by_test (needs_scratch_reserve stack dedicated_scratch c))
  where
    count_of : Bool → ℕ
    count_of b = if b && is_none (Some by) then 1 else 0

    by_test : (b : Bool) → count_of b ≡ 0
    by_test true = refl
    by_test false = refl
