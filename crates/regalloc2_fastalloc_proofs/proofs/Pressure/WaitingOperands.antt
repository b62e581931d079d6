-- Operands that wait for a register, and how many registers an instruction leaves free for them.
use Rattle.std.proofs.Common.{ℕ, zero, suc, ◌≡◌, ◌+◌, ◌<◌, ◌≤◌, Bool, true, false, List, length, refl, sym, ap, ◌∙◌, subst, arith, inl, inr, get_or-set_same}
use Rattle.std.proofs.Common.{eq-eqb}
use Rattle.std.specs.Prelude.{not, ◌&&◌, ◌||◌, nat_eq, nat_lt, count_by, slice_index_or, slice_set, take}
use Rattle.std.proofs.lemmas.Bool.{cases_Bool, cases_eq, ne_eqb, and_left, and_right}
use Rattle.std.proofs.lemmas.List.{get_or-set_other, take_all}
use Rattle.std.proofs.lemmas.List.Sums.{count_by_more_yes, count_by_more_no}
use Rattle.regalloc2_names.specs.declared.RegClass.{RegClass}
use Rattle.regalloc2_names.specs.Register.{Register, class_code, has_register}
use Rattle.regalloc2_names.specs.Operand.{OperandValue}
use Rattle.regalloc2_names.specs.Place.{Place, NoPlace, InRegister, is_in_register}
use Rattle.regalloc2_function.specs.FunctionValue.{InstValue, no_operand, op_at}
use Rattle.regalloc2_function.specs.Machine.{MachineValue, is_allocatable, count_below, allocatable_count}
use Rattle.regalloc2_semantics.specs.Fits.{is_under_reg, is_fixed_to, need_of, register_number}
use Rattle.regalloc2_fastalloc_proofs.specs.InstSteps.{needs_reg_of_class, needing_reg}
use Rattle.regalloc2_fastalloc_state.proofs.CountingLaws.{count_union, count_more, count_same, some_count}
use Rattle.regalloc2_fastalloc_proofs.specs.Pressure.EnoughRegs.{waits, waiting}

-- an operand that waits gets a register
pub waits_no_more : (ops : List OperandValue) (here : List Place) (c : RegClass) (k : ℕ) (r : Register) → k < length ops → length here ≡ length ops →
    waits ops here c k ≡ true
    → waiting ops here c ≡ waiting ops (slice_set here k (InRegister r)) c + 1
waits_no_more ops here c k r lt long h = count_more (waits ops (slice_set here k (InRegister r)) c) (waits ops here c) k (length ops) lt
    (let e : slice_index_or (slice_set here k (InRegister r)) k NoPlace ≡ InRegister r = get_or-set_same here k (InRegister r) NoPlace
    (omega (arith, lt, long)) in
    rw e (and_right (needs_reg_of_class c (op_at ops k)) false refl))
    h
    (λ j less ne. let e : slice_index_or (slice_set here k (InRegister r)) j NoPlace ≡ slice_index_or here j NoPlace = get_or-set_other here k j (InRegister r)
    NoPlace ne in rw e refl)

-- an operand that doesn't wait may get any place
pub waits_as_before : (ops : List OperandValue) (here : List Place) (c : RegClass) (k : ℕ) (p : Place) → length here ≡ length ops →
    ((k < length ops) → waits ops here c k ≡ waits ops (slice_set here k p) c k)
    → waiting ops (slice_set here k p) c ≡ waiting ops here c
waits_as_before ops here c k p long same = count_same (waits ops (slice_set here k p) c) (waits ops here c) (length ops) (λ j less. elim (cases_eq j k) [
  | inl e ↦ subst (λ (x : ℕ). waits ops (slice_set here k p) c x ≡ waits ops here c x) (sym e) (sym (same (omega (arith, less, e))))
  | inr ne ↦ (let e : slice_index_or (slice_set here k p) j NoPlace ≡ slice_index_or here j NoPlace = get_or-set_other here k j p NoPlace ne in rw e refl)
])

-- an operand under another constraint doesn't wait
pub waits_not : (ops : List OperandValue) (here : List Place) (c : RegClass) (k : ℕ) → is_under_reg (op_at ops k).constraint ≡ false →
    waits ops here c k ≡ false
waits_not ops here c k e = rw e refl

-- an operand of another class doesn't wait
pub other_class_does_not_wait : (ops : List OperandValue) (here : List Place) (c : RegClass) (k : ℕ) → (class_code c ≡ class_code (op_at ops k).vreg.class → ⊥) →
    waits ops here c k ≡ false
other_class_does_not_wait ops here c k ne =
    let e : nat_eq (class_code (op_at ops k).vreg.class) (class_code c) ≡ false = ne_eqb (class_code (op_at ops k).vreg.class) (class_code c)
    (λ same. ne (sym same)) in
    rw e (and_left (is_under_reg (op_at ops k).constraint && false) (not (is_in_register (slice_index_or here k NoPlace)))
    (and_right (is_under_reg (op_at ops k).constraint) false refl))

-- an operand that has its place already doesn't wait
pub waits_placed : (ops : List OperandValue) (here : List Place) (c : RegClass) (k : ℕ) (r : Register) → slice_index_or here k NoPlace ≡ InRegister r →
    waits ops here c k ≡ false
waits_placed ops here c k r e = rw e (and_right (needs_reg_of_class c (op_at ops k)) false refl)

-- an operand without a place waits for a register of its class
pub waits_here : (ops : List OperandValue) (here : List Place) (k : ℕ) → is_under_reg (op_at ops k).constraint ≡ true →
    slice_index_or here k NoPlace ≡ NoPlace → waits ops here (op_at ops k).vreg.class k ≡ true
waits_here ops here k e f = rw (e, f, eq-eqb (class_code (op_at ops k).vreg.class) (class_code (op_at ops k).vreg.class) refl) refl

-- where some operand waits for a register of a class, the count of waiting operands isn't 0
pub some_wait : (ops : List OperandValue) (here : List Place) (c : RegClass) (k : ℕ) → k < length ops → waits ops here c k ≡ true → 0 < waiting ops here c
some_wait ops here c k lt h = some_count (waits ops here c) (length ops) k lt h

-- the registers of a class that are fixed or clobbered
abbrev pub is_taken_first : MachineValue → RegClass → InstValue → ℕ → Bool
is_taken_first env class i n = is_allocatable env class (register_number class n)
    && (has_register i.clobbers (register_number class n) || nat_lt 0 (count_by (λ o. is_fixed_to (register_number class n) o.constraint) i.operands))

-- all registers are free but the taken ones
pub rest_is_free : (env : MachineValue) (class : RegClass) (i : InstValue) (is_left : ℕ → Bool) →
    ((n : ℕ) → n < 64 → is_allocatable env class (register_number class n) ≡ true → is_taken_first env class i n ≡ false → is_left n ≡ true)
    → allocatable_count env class ≤ count_below is_left 64 + count_below (is_taken_first env class i) 64
unfolding allocatable_count
rest_is_free env class i is_left h = count_union (λ n. is_allocatable env class (register_number class n)) is_left (is_taken_first env class i) 64
    (λ n lt e. elim (cases_Bool (is_taken_first env class i n)) [
      | inl t ↦ inr t
      | inr f ↦ inl (h n lt e f)
    ])

-- an instruction that fits leaves enough registers
pub fits_enough : (env : MachineValue) (class : RegClass) (i : InstValue) (is_left : ℕ → Bool) (scratch_reserve : ℕ) →
    ((n : ℕ) → n < 64 → is_allocatable env class (register_number class n) ≡ true → is_taken_first env class i n ≡ false → is_left n ≡ true)
    → need_of env class i + scratch_reserve ≤ allocatable_count env class
    → needing_reg i.operands class + scratch_reserve ≤ count_below is_left 64
unfolding need_of
fits_enough env class i is_left scratch_reserve h fits =
    let all = rest_is_free env class i is_left h in
    omega (arith, fits, all)

-- the count by indexes is that of the list
pub counted_by : (P : OperandValue → Bool) (ops : List OperandValue) (n : ℕ) → n ≤ length ops → count_below (λ k. P (op_at ops k)) n ≡ count_by P (take n ops)
unfolding count_below
counted_by P ops zero le = refl
counted_by P ops (suc n) le =
    let rest : count_below (λ k. P (op_at ops k)) n ≡ count_by P (take n ops) = counted_by P ops n (omega arith) in
    let one : suc n ≡ n + 1 = omega arith in
    let next : count_by P (take (suc n) ops) ≡ count_by P (take (n + 1) ops) = ap (λ (k : ℕ). count_by P (take k ops)) one in
    elim (cases_Bool (P (op_at ops n))) [
      | inl e ↦ (let more = count_by_more_yes P ops n no_operand (omega arith) e in rw e (omega (arith, rest, next, more)))
      | inr e ↦ (let more = count_by_more_no P ops n no_operand (omega arith) e in rw e (omega (arith, rest, next, more)))
    ]

-- before any operand has a place, all that require a register wait
pub all_wait : (ops : List OperandValue) (blank : List Place) (c : RegClass) → ((k : ℕ) → slice_index_or blank k NoPlace ≡ NoPlace) →
    waiting ops blank c ≡ needing_reg ops c
all_wait ops blank c none =
    count_same (waits ops blank c) (λ k. needs_reg_of_class c (op_at ops k)) (length ops) (λ k lt. rw (none k) (and_true (needs_reg_of_class c (op_at ops k))))
    ∙ counted_by (needs_reg_of_class c) ops (length ops) (omega arith) ∙ ap (count_by (needs_reg_of_class c)) (take_all (length ops) ops (omega arith))
  where
    and_true : (b : Bool) → (b && not false) ≡ b
    and_true true = refl
    and_true false = refl
