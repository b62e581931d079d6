-- What a pass over operands, from the last to the first, finds.
use Rattle.std.proofs.Common.{ℕ, zero, suc, ◌≡◌, ◌+◌, ◌<◌, ◌≤◌, inl, inr, Bool, true, false, List, [], ◌∷◌, length, refl, arith, eq-eqb, sym, ap, ◌∙◌, subst}
use Rattle.std.specs.Prelude.{All, drop, ◌↔◌, ◌&&◌, ◌||◌, if◌then◌else◌, nat_eq, slice_index, slice_set}
use Rattle.std.proofs.lemmas.Bool.{cases_Bool, cases_eq}
use Rattle.std.proofs.lemmas.Bool.Decides.{nat_tests}
use Rattle.std.proofs.lemmas.List.{drop_all, drop_more, get_or-set_other, get_or-set_same, length-set}
use Rattle.std.proofs.lemmas.List.Sums.{sum_by-cons}
use Rattle.std.specs.List.{list_any}
use Rattle.std.proofs.lemmas.List.Folds.{list_any_at}
use Rattle.regalloc2_names.specs.declared.RegClass.{RegClass}
use Rattle.regalloc2_names.specs.declared.RegClass.TheVariants.{Int, Float, Vector}
use Rattle.regalloc2_names.specs.declared.OperandConstraint.{OperandConstraint}
use Rattle.regalloc2_names.specs.declared.OperandConstraint.TheVariants.{Any, Reg, Stack, Limit, Reuse, FixedReg}
use Rattle.regalloc2_names.specs.Register.{Register, class_code}
use Rattle.regalloc2_names.specs.Operand.{OperandValue, is_fixed, is_fixed_operand, is_limit, is_limited_operand}
use Rattle.regalloc2_names.specs.OperandUnion.{IsUnionOf}
use Rattle.regalloc2_names.specs.declared.unions.OperandUnion.{OperandUnion}
use Rattle.regalloc2_names.specs.Packing.{IsOperand}
use Rattle.regalloc2_fastalloc_state.specs.declared.inst_regs.InstRegs.{InstRegs}
use Rattle.regalloc2_fastalloc_state.specs.declared.masks.Masks.{Masks}
use Rattle.regalloc2_fastalloc_state.specs.InstRegs.{SameAvailable, awaited_of}
use Rattle.regalloc2_fastalloc_state.specs.Masks.{AreMasks, max_masked}
use Rattle.regalloc2_fastalloc_state.specs.Validate.NoLimits.{IsTakenOperand}
use Rattle.regalloc2_fastalloc_state.proofs.ArraysByClass.{zeros}
use Rattle.regalloc2_function.specs.FunctionValue.{op_at, no_operand}
use Rattle.regalloc2_semantics.specs.Fits.{is_under_reg}
use Rattle.regalloc2_fastalloc_proofs.specs.InstSteps.{needs_reg_of_class, needing_reg}
use Rattle.regalloc2_fastalloc_walk.specs.ReserveSteps.{AreSorted}

-- a constraint to one register names the register
fixed_register : (c : OperandConstraint) → is_fixed c ≡ true → (r : Register) × (c ≡ FixedReg r)
fixed_register Any e = absurd cc
fixed_register Reg e = absurd cc
fixed_register Stack e = absurd cc
fixed_register (FixedReg r) e = (r, refl)
fixed_register (Reuse n) e = absurd cc
fixed_register (Limit n) e = absurd cc

-- if any operand is fixed to a register, there is an operand that is
fixed_operand : (ops : List OperandValue) → list_any is_fixed_operand ops ≡ true →
    (k : ℕ) × (r : Register) × (k < length ops) × ((op_at ops k).constraint ≡ FixedReg r)
fixed_operand [] e = absurd cc
fixed_operand (o ∷ rest) e = elim (cases_Bool (is_fixed_operand o)) [
  | inl own ↦ (let f = fixed_register o.constraint own in (0, f.0, omega arith, f.1))
  | inr other ↦ (
      let later : list_any is_fixed_operand rest ≡ true = sym (ap (λ (b : Bool). b || list_any is_fixed_operand rest) other) ∙ e in
      let f = fixed_operand rest later in (suc f.0, f.1, (let lt = f.2 in omega (arith, lt)), f.3))
]

-- if no operand is fixed to a register, no operand at an index is
no_fixed_operand : (ops : List OperandValue) → list_any is_fixed_operand ops ≡ false → (k : ℕ) → k < length ops → (r : Register) →
    (op_at ops k).constraint ≡ FixedReg r → ⊥
no_fixed_operand ops none k lt r e =
    let any : list_any is_fixed_operand ops ≡ true = list_any_at is_fixed_operand ops k no_operand lt (ap is_fixed e) in
    let no : true ≡ false = sym any ∙ none in cc

-- the walk takes operands of which none has a limit
all_taken : (ops : List OperandValue) → All IsOperand ops → list_any is_limited_operand ops ≡ false → All IsTakenOperand ops
all_taken ops are none k d lt = record {
  of_class = (are k d lt).1;
  unlimited = λ n e.
      let any : list_any is_limited_operand ops ≡ true = list_any_at is_limited_operand ops k d lt (ap is_limit e) in
      let no : true ≡ false = sym any ∙ none in cc;
}

-- what was found among the operands from the index k on
pub record Sorting (ops : List OperandValue) (k : ℕ) (t u : InstRegs) (masks : Masks) (union : OperandUnion) : Type 0 where
  pub inside : k ≤ length ops
  pub available : SameAvailable t u
  pub long : length u.awaited ≡ 3
  pub counted : (class : RegClass) → awaited_of u class ≡ needing_reg (drop k ops) class
  pub masked : length (drop k ops) ≤ max_masked → AreMasks (drop k ops) masks
  pub united : IsUnionOf (drop k ops) union

-- behind the last operand nothing was found
pub sorting_none : (ops : List OperandValue) (t : InstRegs) (masks : Masks) (union : OperandUnion) → t.awaited ≡ 0 ∷ 0 ∷ 0 ∷ [] → AreMasks [] masks →
    IsUnionOf [] union → Sorting ops (length ops) t t masks union
sorting_none ops t masks union e m none =
    let all : drop (length ops) ops ≡ [] = drop_all (length ops) ops (omega arith) in
    record {
      inside = omega arith;
      available = record { early = refl; late = refl; scratch = refl };
      long = ap length e;
      counted = λ class. ap (λ xs. slice_index xs (class_code class)) e ∙ zeros class ∙ ap (λ (xs : List OperandValue). needing_reg xs class) (sym all);
      masked = λ few. subst (λ (xs : List OperandValue). AreMasks xs masks) (sym all) m;
      united = subst (λ (xs : List OperandValue). IsUnionOf xs union) (sym all) none;
    }

-- there is a count for each class
class_short : (class : RegClass) → class_code class < 3
class_short Int = omega arith
class_short Float = omega arith
class_short Vector = omega arith

-- an operand is counted in its own class alone
and_holds : (a b c : Bool) → c ≡ a → b ≡ true → (a && b) ≡ c
and_holds true b c e q = q ∙ sym e
and_holds false b c e q = sym e

and_fails : (a b : Bool) → b ≡ false → (a && b) ≡ false
and_fails true b q = q
and_fails false b q = refl

module _ (ops : List OperandValue) (k : ℕ) (t u w : InstRegs) (m p : Masks) (union more : OperandUnion) (o : OperandValue)
    (h : Sorting ops (k + 1) t u m union) (is : o ≡ op_at ops k) where
  -- the operand k is in front of the operands after it
  before : drop k ops ≡ o ∷ drop (k + 1) ops
  before = drop_more ops k no_operand (let i = h.inside in omega (arith, i)) ∙ ap (λ (x : OperandValue). x ∷ drop (k + 1) ops) (sym is)

  -- an operand is counted in its class if it requires any register
  counted_more : w.awaited ≡ slice_set u.awaited (class_code o.vreg.class) (awaited_of u o.vreg.class + (if is_under_reg o.constraint then 1 else 0)) →
      (class : RegClass) → awaited_of w class ≡ needing_reg (o ∷ drop (k + 1) ops) class
  counted_more e class =
      let rest : List OperandValue = drop (k + 1) ops in
      let code : ℕ = class_code o.vreg.class in
      let v : ℕ = awaited_of u o.vreg.class + (if is_under_reg o.constraint then 1 else 0) in
      let now : awaited_of w class ≡ slice_index (slice_set u.awaited code v) (class_code class) = ap (λ (xs : List ℕ). slice_index xs (class_code class)) e in
      let was : awaited_of u class ≡ needing_reg rest class = h.counted class in
      let sum : needing_reg (o ∷ rest) class ≡ (if needs_reg_of_class class o then 1 else 0) + needing_reg rest class =
      sum_by-cons (λ (x : OperandValue). if needs_reg_of_class class x then 1 else 0) o rest in
      elim (cases_eq code (class_code class)) [
        | inl x ↦ (
            let here : slice_index (slice_set u.awaited code v) code ≡ v =
            get_or-set_same u.awaited code v 0 (omega (arith, h.long, class_short o.vreg.class)) in
            let there : slice_index (slice_set u.awaited code v) (class_code class) ≡ v =
            ap (λ (n : ℕ). slice_index (slice_set u.awaited code v) n) (sym x) ∙ here in
            let own : awaited_of u o.vreg.class ≡ awaited_of u class = ap (λ (n : ℕ). slice_index u.awaited n) x in
            let asked : needs_reg_of_class class o ≡ is_under_reg o.constraint =
            and_holds (is_under_reg o.constraint) (nat_eq code (class_code class)) (is_under_reg o.constraint) refl (eq-eqb _ _ x) in
            let total : awaited_of w class ≡ (if is_under_reg o.constraint then 1 else 0) + needing_reg rest class = omega (arith, now, there, own, was) in
            total ∙ ap (λ (b : Bool). (if b then 1 else 0) + needing_reg rest class) (sym asked) ∙ sym sum)
        | inr ne ↦ (
            let other : slice_index (slice_set u.awaited code v) (class_code class) ≡ awaited_of u class =
            get_or-set_other u.awaited code (class_code class) v 0 (λ x. ne (sym x)) in
            let unasked : needs_reg_of_class class o ≡ false =
            and_fails (is_under_reg o.constraint) (nat_eq code (class_code class)) (grind (arith, nat_tests)) in
            let none : needing_reg rest class ≡ 0 + needing_reg rest class = omega arith in
            now ∙ other ∙ was ∙ none ∙ ap (λ (b : Bool). (if b then 1 else 0) + needing_reg rest class) (sym unasked) ∙ sym sum)
      ]

  -- with the operand k, what was found is what there is from the index k on
  pub sorting_more : SameAvailable u w →
      w.awaited ≡ slice_set u.awaited (class_code o.vreg.class) (awaited_of u o.vreg.class + (if is_under_reg o.constraint then 1 else 0)) →
      ((xs : List OperandValue) → length xs < max_masked → AreMasks xs m → AreMasks (o ∷ xs) p) →
      ((xs : List OperandValue) → IsUnionOf xs union → IsUnionOf (o ∷ xs) more) → Sorting ops k t w p more
  sorting_more same e masks unites = record {
    inside = (let i = h.inside in omega (arith, i));
    available = record {
      early = same.early ∙ h.available.early;
      late = same.late ∙ h.available.late;
      scratch = same.scratch ∙ h.available.scratch;
    };
    long = ap length e ∙ length-set u.awaited (class_code o.vreg.class) (awaited_of u o.vreg.class + (if is_under_reg o.constraint then 1 else 0)) ∙ h.long;
    counted = λ class. counted_more e class ∙ ap (λ (xs : List OperandValue). needing_reg xs class) (sym before);
    masked = λ few.
        let short : length (drop (k + 1) ops) < max_masked = (let l = ap length before in omega (arith, l, few)) in
        subst (λ (xs : List OperandValue). AreMasks xs p) (sym before) (masks (drop (k + 1) ops) short (h.masked (omega (arith, short))));
    united = subst (λ (xs : List OperandValue). IsUnionOf xs more) (sym before) (unites (drop (k + 1) ops) h.united);
  }

-- once the first operand is passed, what was found is what one pass finds
pub sorted_all : (ops : List OperandValue) (k : ℕ) (t u : InstRegs) (masks : Masks) (union : OperandUnion) (any_fixed no_limits : Bool) → k ≡ 0 →
    Sorting ops k t u masks union → ((xs : List OperandValue) → IsUnionOf xs union → any_fixed ≡ list_any is_fixed_operand xs) →
    ((no_limits ≡ true) ↔ All IsTakenOperand ops) → AreSorted ops (record { masks = masks; any_fixed = any_fixed; unlimited = no_limits })
sorted_all ops zero t u masks union any_fixed no_limits e h any unlimited = record {
  masks = h.masked;
  some = λ yes. fixed_operand ops (sym (any ops h.united) ∙ yes);
  none = λ no. no_fixed_operand ops (sym (any ops h.united) ∙ no);
  unlimited = unlimited;
}
sorted_all ops (suc k) t u masks union any_fixed no_limits e h any unlimited = absurd (omega (arith, e))

-- if the union says that no operand has a limit, the walk takes all operands
pub none_limited : (ops : List OperandValue) (k : ℕ) (t u : InstRegs) (masks : Masks) (union : OperandUnion) → k ≡ 0 → Sorting ops k t u masks union →
    ((xs : List OperandValue) → IsUnionOf xs union → list_any is_limited_operand xs ≡ false) → All IsTakenOperand ops
none_limited ops zero t u masks union e h none = all_taken ops h.united.are_operands (none ops h.united)
none_limited ops (suc k) t u masks union e h none = absurd (omega (arith, e))
