-- Tests of the definitions of kept labels and of instructions that fit: one that is and one that isn't.
use Rattle.std.proofs.Common.{ℕ, zero, suc, ◌≡◌, ◌+◌, ◌/◌, ◌<◌, ◌≤◌, false, true, [], ◌∷◌, refl, arith, inl, inr, subst}
use Rattle.std.specs.Prelude.{◌⊎◌, None, ◌&&◌, count_by, if◌then◌else◌, is_none, nat_eq, nat_lt}
use Rattle.regalloc2_names.specs.declared.OperandConstraint.TheVariants.{FixedReg, Reuse}
use Rattle.regalloc2_names.specs.declared.OperandKind.{OperandKind}
use Rattle.regalloc2_names.specs.declared.OperandKind.TheVariants.{Def, Use}
use Rattle.regalloc2_names.specs.declared.OperandPos.{OperandPos}
use Rattle.regalloc2_names.specs.declared.OperandPos.TheVariants.{Early, Late}
use Rattle.regalloc2_names.specs.declared.RegClass.{RegClass}
use Rattle.regalloc2_names.specs.declared.RegClass.TheVariants.{Int, Float, Vector}
use Rattle.regalloc2_names.specs.Operand.{OperandValue, is_fixed_nonallocatable}
use Rattle.regalloc2_names.specs.Register.{Register, has_register, class_code, empty_set}
use Rattle.regalloc2_names.specs.Place.{after}
use Rattle.regalloc2_function.specs.FunctionValue.{FunctionValue, InstValue, Label, EachOperand, op_at}
use Rattle.regalloc2_function.specs.Machine.{MachineValue, is_allocatable, IsFixedStackSlot, allocatable_count, count_below, scratch_of}
use Rattle.regalloc2_semantics.specs.Debug.{UsesAt, IsLastUse, IsLastPoint, IsKept}
use Rattle.regalloc2_semantics.specs.Live.{ReadsAt, PassesAt}
use Rattle.regalloc2_semantics.specs.Debug.IsFirstPoint.{of_definition as first_of_definition}
use Rattle.regalloc2_semantics.specs.Debug.IsLastPoint.{of_late_use, of_early_use, of_argument, of_definition}
use Rattle.regalloc2_semantics.specs.Fits.{Fits, TakesEarly, TakesLate, need_of}
use Rattle.regalloc2_function.specs.Fitting.{NamesClass}
use Rattle.regalloc2_function.specs.WellFormed.{IsReused}
use Rattle.regalloc2_tests.proofs.WorkedPaths.{v, op, block, with_blocks, def_reg, use_reg}

-- an instruction that defines v0, and one that reads it early
abbrev read_once : FunctionValue
read_once = with_blocks (block 0 2 [] [] [] ∷ []) (op (def_reg 0 ∷ []) ∷ op (use_reg 0 ∷ []) ∷ [])

-- a label of v0 from the second instruction on
abbrev label_until : ℕ → Label
label_until n = record { vreg = v 0; start = 1; end = n; label = 5 }

read_early : ReadsAt read_once (v 0) Early 1
read_early = (0, (omega arith, omega arith, refl), refl, refl)

unread_late : (i : ℕ) → ReadsAt read_once (v 0) Late i → ⊥
unread_late zero (zero, names, reads, late) = (let e : false ≡ true = reads in cc)
unread_late zero (suc k, names, reads, late) = (let less = names.1 in omega (arith, less))
unread_late (suc zero) (zero, names, reads, late) = (let e : Early ≡ Late = late in cc)
unread_late (suc zero) (suc k, names, reads, late) = (let less = names.1 in omega (arith, less))
unread_late (suc (suc i)) (k, names, reads, late) = (let lt = names.0 in omega (arith, lt))

unpassed : (b i : ℕ) → PassesAt read_once (v 0) (record { block = b; inst = i }) → ⊥
unpassed zero i h = (let edge = h.1.1 in omega (arith, edge))
unpassed (suc b) i h = (let edge = h.1.1 in omega (arith, edge))

used_within : (i : ℕ) → UsesAt read_once (v 0) i → i ≤ 1
used_within i (inl h) = omega (arith, h.1.0)
used_within i (inr (inl h)) = omega (arith, h.1.0)
used_within i (inr (inr h)) = absurd (unpassed h.0 i h.1)

last_use : IsLastUse read_once (v 0) 1
last_use = (inl read_early, used_within)

-- a label that ends at most one instruction past the last use is kept
label_kept : IsKept read_once (label_until 2) (after 0) (after 1)
label_kept = (
  first_of_definition 0 (0, (omega arith, omega arith, refl), refl),
  of_early_use 1 last_use (unread_late 1) read_early,
  omega arith,
  omega arith,
)

-- a label that ends later isn't
label_left_out : (start end : ℕ) → IsKept read_once (label_until 3) start end → ⊥
label_left_out start end h = past end h.1 h.3
  where
    past : (end : ℕ) → IsLastPoint read_once (v 0) end → 3 ≤ end / 2 + 1 → ⊥
    past end (of_late_use i last late) long = unread_late i late
    past end (of_early_use i last not_late early) long = let e : i ≤ 1 = used_within i last.0 in omega (arith, e, long)
    past end (of_argument i last not_late not_early) long = let e : i ≤ 1 = used_within i last.0 in omega (arith, e, long)
    past end (of_definition i at none) long = none 1 (inl read_early)

-- a machine with two preferred registers for integers
abbrev two_registers : MachineValue
two_registers = record {
  preferred = record { bits = 3 ∷ 0 ∷ 0 ∷ [] } ∷ empty_set ∷ empty_set ∷ [];
  non_preferred = empty_set ∷ empty_set ∷ empty_set ∷ [];
  scratch = None ∷ None ∷ None ∷ [];
  fixed_stack_slots = [];
}

abbrev p0i : Register
p0i = record { number = 0; class = Int }

abbrev fixed_to_p0i : ℕ → OperandKind → OperandPos → OperandValue
fixed_to_p0i n k q = record { vreg = v n; constraint = FixedReg p0i; kind = k; position = q }

-- two early uses that are fixed to one register don't fit
two_uses_fixed : Fits read_once two_registers (op (fixed_to_p0i 0 Use Early ∷ fixed_to_p0i 1 Use Early ∷ [])) → ⊥
two_uses_fixed fits = (fits.apart 0 1 p0i (omega arith) (omega arith) refl refl refl refl).0 (early 0, early 1)
  where
    early : (n : ℕ) → TakesEarly (fixed_to_p0i n Use Early)
    early n e = absurd (let no : false ≡ true = e in cc)

-- one more register where the class has fixed stack slots and no dedicated scratch register
abbrev spare_of : MachineValue → RegClass → ℕ
spare_of env class = if nat_lt 0 (count_by (λ r. nat_eq (class_code r.class) (class_code class)) env.fixed_stack_slots)
    && is_none (scratch_of env class) then 1 else 0

-- three uses in registers don't fit where there are two
three_uses : Fits read_once two_registers (op (use_reg 0 ∷ use_reg 1 ∷ use_reg 2 ∷ [])) → ⊥
unfolding need_of allocatable_count count_below has_register
three_uses fits =
    let named : NamesClass read_once Int = inl (0, omega arith, (0, def_reg 0, omega arith, refl, (refl, refl))) in
    let needed : need_of two_registers Int (op (use_reg 0 ∷ use_reg 1 ∷ use_reg 2 ∷ [])) + spare_of two_registers Int ≡ 3 = refl in
    let there : allocatable_count two_registers Int ≡ 2 = refl in
    let enough = fits.enough Int named in
    omega (arith, needed, there, enough)

abbrev both_fixed : InstValue
both_fixed = op (fixed_to_p0i 1 Def Late ∷ fixed_to_p0i 0 Use Early ∷ [])

-- a late definition and an early use that are fixed to one register fit
fixed_in_turn : Fits read_once two_registers both_fixed
unfolding need_of allocatable_count count_below has_register
fixed_in_turn = record { fixed = fixed; apart = apart; enough = enough }
  where
    allocatable : (r : Register) → FixedReg p0i ≡ FixedReg r → (is_allocatable two_registers r.class r ≡ true) ⊎ IsFixedStackSlot two_registers r
    allocatable r e =
        let same : p0i ≡ r = cc in
        subst (λ q. (is_allocatable two_registers q.class q ≡ true) ⊎ IsFixedStackSlot two_registers q) same (inl refl)

    fixed : EachOperand both_fixed (λ k o. is_fixed_nonallocatable o ≡ false → (r : Register) → o.constraint ≡ FixedReg r →
        (is_allocatable two_registers r.class r ≡ true) ⊎ IsFixedStackSlot two_registers r)
    fixed zero less plain r e = allocatable r e
    fixed (suc zero) less plain r e = allocatable r e
    fixed (suc (suc k)) less plain r e = absurd (omega (arith, less))

    unreused : (k : ℕ) → IsReused both_fixed.operands k → ⊥
    unreused k (zero, less, e) = let no : FixedReg p0i ≡ Reuse k = e in cc
    unreused k (suc zero, less, e) = let no : FixedReg p0i ≡ Reuse k = e in cc
    unreused k (suc (suc j), less, e) = omega (arith, less)

    apart : (j k : ℕ) (r : Register) → j < k → k < 2 →
        let a : OperandValue = op_at both_fixed.operands j in
        let b : OperandValue = op_at both_fixed.operands k in
        is_fixed_nonallocatable a ≡ false → is_fixed_nonallocatable b ≡ false → a.constraint ≡ FixedReg r → b.constraint ≡ FixedReg r →
        (TakesEarly a × TakesEarly b → ⊥) × (TakesLate both_fixed j a × TakesLate both_fixed k b → ⊥)
    apart zero zero r less within a b one two = absurd (omega (arith, less))
    apart zero (suc zero) r less within a b one two = ((λ h. let reuse = h.0 refl in let no : FixedReg p0i ≡ Reuse reuse.0 = reuse.1 in cc), (λ h. unreused 1 (h.1 refl)))
    apart zero (suc (suc k)) r less within a b one two = absurd (omega (arith, within))
    apart (suc j) k r less within a b one two = absurd (omega (arith, less, within))

    enough : (c : RegClass) → NamesClass read_once c → need_of two_registers c both_fixed + spare_of two_registers c ≤ allocatable_count two_registers c
    enough Int named =
        let needed : need_of two_registers Int both_fixed + spare_of two_registers Int ≡ 1 = refl in
        let there : allocatable_count two_registers Int ≡ 2 = refl in
        omega (arith, needed, there)
    enough Float named = let needed : need_of two_registers Float both_fixed + spare_of two_registers Float ≡ 0 = refl in omega (arith, needed)
    enough Vector named = let needed : need_of two_registers Vector both_fixed + spare_of two_registers Vector ≡ 0 = refl in omega (arith, needed)
