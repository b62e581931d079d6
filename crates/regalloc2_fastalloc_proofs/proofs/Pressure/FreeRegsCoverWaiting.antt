-- While operands are allocated, at least as many registers are free as operands wait for one; each takes its own, or
-- one that can be spared.
use Rattle.regalloc2_parts.proofs.RegisterLaws.{class_codes}
use Rattle.std.proofs.Common.{ℕ, zero, suc, [], ◌∷◌, ◌≡◌, ◌+◌, ◌-◌, ◌<◌, ◌≤◌, Bool, true, false, List, length, refl, sym, ap, ◌∙◌, subst, arith, inl, inr}
use Rattle.std.proofs.Common.{◌⊎◌, get_or-set_same, set}
use Rattle.std.specs.Prelude.{not, ◌&&◌, slice_index, slice_set}
use Rattle.std.proofs.lemmas.Bool.{cases_eq, cases_Bool, and_parts, and_left, and_right}
use Rattle.std.proofs.lemmas.List.{get_or-set_other}
use Rattle.regalloc2_names.specs.declared.RegClass.{RegClass}
use Rattle.regalloc2_names.specs.declared.OperandConstraint.TheVariants.{FixedReg, Reuse}
use Rattle.regalloc2_names.specs.declared.sets.PRegSet.{PRegSet}
use Rattle.regalloc2_names.specs.Register.{Register, VirtualRegister, class_code, is_register, has_register}
use Rattle.regalloc2_names.specs.Operand.{OperandValue, is_fixed_nonallocatable}
use Rattle.regalloc2_names.specs.Place.{Place, InRegister, InSlot}
use Rattle.regalloc2_semantics.proofs.Cells.{is_register-same}
use Rattle.regalloc2_function.specs.Machine.{MachineValue, IsStackPlace}
use Rattle.regalloc2_function.specs.OutputValue.{place_at}
use Rattle.regalloc2_fastalloc_state.specs.declared.inst_regs.InstRegs.{InstRegs}
use Rattle.regalloc2_fastalloc_state.specs.declared.request.Requirement.{Requirement}
use Rattle.regalloc2_fastalloc_state.specs.declared.request.Requirement.TheVariants.{AnyPlace, AnyReg, OnStack, InPReg}
use Rattle.regalloc2_fastalloc_state.specs.declared.request.OperandRequest.{OperandRequest}
use Rattle.regalloc2_fastalloc_state.specs.InstRegs.{is_free, free_count, awaited_of, is_free_throughout}
use Rattle.regalloc2_function.specs.FunctionValue.{op_at}
use Rattle.regalloc2_fastalloc_proofs.specs.InstSteps.{StateValue, scratch_reserve_left, awaited_less, AllocsOperand, ClaimsPlace, in_slot, in_register}
use Rattle.regalloc2_fastalloc_proofs.specs.Safety.{MayBeLocatedAt}
use Rattle.regalloc2_fastalloc_proofs.proofs.Moves.ScratchRegTaken.{Less}
use Rattle.regalloc2_fastalloc_proofs.proofs.Safety.OperandKeepsSafe.{AnswersRequirement}
use Rattle.regalloc2_fastalloc_proofs.specs.Pressure.EnoughRegs.{HasEnoughRegs, waiting}
use Rattle.regalloc2_fastalloc_proofs.proofs.Pressure.TablesHaveAllRegs.{HasAll}
use Rattle.regalloc2_fastalloc_proofs.proofs.Pressure.ClaimLeavesEnough.{IsPaid}

-- While operands are allocated: enough registers are free for the waiting operands, which are counted. A register that
-- an operand has, or is fixed to, is no longer free. If an operand that isn't done has a register already, a reuse that
-- is done names it.
pub record Paying (Named : RegClass → Type 0) (ops : List OperandValue) (done : ℕ → Type 0) (here : List Place) (u : InstRegs) (t : StateValue) : Type 0 where
  pub ample : HasEnoughRegs Named (waiting ops here) u t
  pub awaited : (c : RegClass) → awaited_of u c ≡ waiting ops here c
  pub placed_unfree : (j : ℕ) (r : Register) → j < length ops → is_fixed_nonallocatable (op_at ops j) ≡ false → (place_at here j ≡ InRegister r)
      ⊎ ((op_at ops j).constraint ≡ FixedReg r) → is_free t.allocatable u r ≡ false
  pub named : (j : ℕ) (r : Register) → j < length ops → (done j → ⊥) → place_at here j ≡ InRegister r → (m : ℕ) × (m < length ops) × done m
      × ((op_at ops m).constraint ≡ Reuse j)

-- what is held stays held
pub unfree_kept : (old new : PRegSet) (t u : InstRegs) (r : Register) → new ≡ old → Less t u → is_free old t r ≡ false → is_free new u r ≡ false
unfree_kept old new t u r same less h = elim (cases_Bool (has_register old r)) [
  | inl there ↦ elim (cases_Bool (has_register t.early r)) [
    | inl early ↦ (let late : has_register t.late r ≡ false = rw (there, early) at h in let gone = less.late r late in
        rw gone (and_right (has_register new r) (has_register u.early r && false) (and_right (has_register u.early r) false refl)))
    | inr early ↦ (let gone = less.early r early in rw gone (and_right (has_register new r) false refl))
  ]
  | inr away ↦ (let gone : has_register new r ≡ false = ap (λ (x : PRegSet). has_register x r) same ∙ away in rw gone refl)
]

-- the register of an operand that was placed is no longer free
pub placed_register_is_not_free : (point : ℕ) (o : OperandRequest) (p : Place) (t u : InstRegs) (old new : StateValue) → AllocsOperand point o p t u old new →
    (o.positions.early ≡ true) ⊎ (o.positions.late ≡ true) → (set : PRegSet) (r : Register) → p ≡ InRegister r → is_free set u r ≡ false
placed_register_is_not_free point o p t u old new g some set r is = by_case g.takes.occupies
  where
    held : (b c y x : Bool) → x ≡ (not (b && c) && y) → b ≡ true → c ≡ true → x ≡ false
    held b c y x e f h = (let n : x ≡ (not (true && true) && y) = rw (f, h) at e in n)

    by_case : ClaimsPlace point o p t u g.middle g.takes.claimed → is_free set u r ≡ false
    by_case (in_slot k at sets en) = (let x : InRegister r ≡ InSlot k = sym is ∙ at in absurd cc)
    by_case (in_register q m at clears holds) =
        let x : InRegister q ≡ InRegister r = sym at ∙ is in
        let same : q ≡ r = cc in
        let it : is_register q r ≡ true = ap (is_register q) (sym same) ∙ is_register-same q in
        elim some [
          | inl early ↦ and_right (has_register set r) (is_free_throughout u r) (and_left (has_register u.early r) (has_register u.late r)
              (held o.positions.early (is_register q r) (has_register m.early r) (has_register u.early r) (holds.early r) early it))
          | inr late ↦ and_right (has_register set r) (is_free_throughout u r) (and_right (has_register u.early r) (has_register u.late r)
              (held o.positions.late (is_register q r) (has_register m.late r) (has_register u.late r) (holds.late r) late it))
        ]

-- How an operand's place changes the waiting operands: an operand that requires any register no longer waits, and other
-- operands change nothing.
pub data Pays (ops : List OperandValue) (here there : List Place) (v : VirtualRegister) (w : Requirement) (t : InstRegs) (old : StateValue) : Type 0 where
  waited : w ≡ AnyReg → waiting ops here v.class ≡ waiting ops there v.class + 1 →
      ((c : RegClass) → (class_code c ≡ class_code v.class → ⊥) → waiting ops there c ≡ waiting ops here c) → Pays ops here there v w t old
  anywhere : w ≡ AnyPlace → ((c : RegClass) → waiting ops there c ≡ waiting ops here c) → Pays ops here there v w t old
  memory : w ≡ OnStack → ((c : RegClass) → waiting ops there c ≡ waiting ops here c) → Pays ops here there v w t old
  at_one : (r : Register) → w ≡ InPReg r → is_free old.allocatable t r ≡ false → ((c : RegClass) → waiting ops there c ≡ waiting ops here c) →
      Pays ops here there v w t old

-- at most as many operands wait then
pub pays_fewer : (ops : List OperandValue) (here there : List Place) (v : VirtualRegister) (w : Requirement) (t : InstRegs) (old : StateValue) →
    Pays ops here there v w t old → (c : RegClass) → waiting ops there c ≤ waiting ops here c
pays_fewer ops here there v w t old (waited wants one rest) c = elim (cases_eq (class_code c) (class_code v.class)) [
  | inl e ↦ subst (λ (k : RegClass). waiting ops there k ≤ waiting ops here k) (sym (class_codes c v.class e)) (omega (arith, one))
  | inr ne ↦ (let e = rest c ne in omega (arith, e))
]
pays_fewer ops here there v w t old (anywhere wants same) c = (let e = same c in omega (arith, e))
pays_fewer ops here there v w t old (memory wants same) c = (let e = same c in omega (arith, e))
pays_fewer ops here there v w t old (at_one r wants unfree same) c = (let e = same c in omega (arith, e))

-- the count of one class falls by one
awaited_fell : (awaited : List ℕ) (code : ℕ) → 0 < slice_index awaited code →
    slice_index (slice_set awaited code (slice_index awaited code - 1)) code ≡ slice_index awaited code - 1
awaited_fell awaited code some = get_or-set_same awaited code (slice_index awaited code - 1) 0 (within awaited code some)
  where
    within : (xs : List ℕ) (k : ℕ) → 0 < slice_index xs k → k < length xs
    within [] k h = absurd (omega arith)
    within (x ∷ xs) zero h = omega arith
    within (x ∷ xs) (suc k) h = let r = within xs k h in omega (arith, r)

-- the waiting operands are counted after an operand was placed
pub pays_awaited : (ops : List OperandValue) (here there : List Place) (v : VirtualRegister) (w : Requirement) (t u : InstRegs) (old : StateValue) →
    Pays ops here there v w t old → ((c : RegClass) → awaited_of t c ≡ waiting ops here c)
    → u.awaited ≡ awaited_less w v.class t.awaited → (c : RegClass) → awaited_of u c ≡ waiting ops there c
pays_awaited ops here there v w t u old (waited wants one rest) counted less c =
    let now : u.awaited ≡ slice_set t.awaited (class_code v.class) (slice_index t.awaited (class_code v.class) - 1) = less
    ∙ ap (λ (x : Requirement). awaited_less x v.class t.awaited) wants in
    elim (cases_eq (class_code c) (class_code v.class)) [
      | inl e ↦ subst (λ (k : RegClass). awaited_of u k ≡ waiting ops there k) (sym (class_codes c v.class e))
          (let was = counted v.class in
          let fell = awaited_fell t.awaited (class_code v.class) (omega (arith, was, one)) in
          let is : awaited_of u v.class ≡ slice_index (slice_set t.awaited (class_code v.class) (slice_index t.awaited (class_code v.class) - 1))
          (class_code v.class) = ap (λ (l : List ℕ). slice_index l (class_code v.class)) now in
          omega (arith, was, one, fell, is))
      | inr ne ↦ ap (λ (l : List ℕ). slice_index l (class_code c)) now ∙ get_or-set_other t.awaited (class_code v.class) (class_code c) _ 0 ne ∙ counted c
          ∙ sym (rest c ne)
    ]
pays_awaited ops here there v w t u old (anywhere wants same) counted less c =
    ap (λ (l : List ℕ). slice_index l (class_code c)) (less ∙ ap (λ (x : Requirement). awaited_less x v.class t.awaited) wants) ∙ counted c ∙ sym (same c)
pays_awaited ops here there v w t u old (memory wants same) counted less c =
    ap (λ (l : List ℕ). slice_index l (class_code c)) (less ∙ ap (λ (x : Requirement). awaited_less x v.class t.awaited) wants) ∙ counted c ∙ sym (same c)
pays_awaited ops here there v w t u old (at_one r wants unfree same) counted less c =
    ap (λ (l : List ℕ). slice_index l (class_code c)) (less ∙ ap (λ (x : Requirement). awaited_less x v.class t.awaited) wants) ∙ counted c ∙ sym (same c)

-- a free register isn't a fixed stack slot
memory_unfree : (env : MachineValue) (t : StateValue) (u : InstRegs) (p : Place) (r : Register) → HasAll env t → IsStackPlace env p → p ≡ InRegister r →
    is_free t.allocatable u r ≡ true → ⊥
memory_unfree env t u p r all stack is free =
    let at : IsStackPlace env (InRegister r) = subst (IsStackPlace env) is stack in
    let yes : has_register t.fixed_stack r ≡ true = all.machine.memory r at in
    let nay : has_register t.fixed_stack r ≡ false = all.fit.stack_apart r ((and_parts (has_register t.allocatable r) _ free).0) in cc

-- the register of an operand that was placed is paid for
pub pays_paid : (Named : RegClass → Type 0) {env : MachineValue} {ops : List OperandValue} {here there : List Place} {o : OperandRequest} {p : Place}
    {point : ℕ} {t u : InstRegs} {old new : StateValue} → Pays ops here there o.vreg o.requirement t old → AllocsOperand point o p t u old new
    → HasAll env old → Named o.vreg.class → MayBeLocatedAt env new.slots o.vreg p → AnswersRequirement env o.requirement p →
    HasEnoughRegs Named (waiting ops here) t old → ((c : RegClass) → awaited_of t c ≡ waiting ops here c) → IsPaid (waiting ops there) o p t old
pays_paid Named {env} {ops} {there} {o} {t} {old} {new} (waited wants one rest) g all named place answer ample counted r is free =
    let stand : MayBeLocatedAt env new.slots o.vreg (InRegister r) = subst (MayBeLocatedAt env new.slots o.vreg) is place in
    subst (λ (k : RegClass). waiting ops there k + scratch_reserve_left old.fixed_stack old.dedicated_scratch t k + 1 ≤ free_count old.allocatable t k)
    (sym stand.1)
    (let a = ample o.vreg.class named in omega (arith, a, one))
pays_paid Named (anywhere wants same) g all named place answer ample counted r is free =
    (let a = g.affordable wants r is free in let b = counted r.class in let e = same r.class in omega (arith, a, b, e))
pays_paid Named {env} {p} {t} {old} (memory wants same) g all named place answer ample counted r is free =
    absurd (memory_unfree env old t p r all (subst (λ (w : Requirement). AnswersRequirement env w p) wants answer) is free)
pays_paid Named {env} {p} {t} {old} (at_one q wants unfree same) g all named place answer ample counted r is free =
    let at : p ≡ InRegister q = subst (λ (w : Requirement). AnswersRequirement env w p) wants answer in
    let x : InRegister q ≡ InRegister r = sym at ∙ is in
    let one : q ≡ r = cc in
    let nay : is_free old.allocatable t r ≡ false = ap (is_free old.allocatable t) (sym one) ∙ unfree in absurd cc
