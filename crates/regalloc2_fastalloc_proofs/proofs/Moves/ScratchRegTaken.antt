-- A scratch register is taken: no vreg is needed in it, and no operand claims it.
-- The fold in `Changes` doesn't apply: what the listing carries, or the operands' record, differs from step to step.
use Rattle.std.proofs.Common.{ℕ, ◌≡◌, ◌<◌, Bool, true, false, List, [], ◌∷◌, zero, suc, refl, sym, ap, ◌∙◌, subst, inl, inr, ◌⊎◌, ⊎_elim}
use Rattle.std.specs.Prelude.{Option, None, Some, not, ◌&&◌, slice_index_or, slice_set}
use Rattle.std.proofs.lemmas.Bool.{cases_Bool}
use Rattle.regalloc2_names.specs.declared.RegClass.{RegClass}
use Rattle.regalloc2_names.specs.Register.{Register, class_code, is_register, has_register}
use Rattle.regalloc2_names.specs.Place.{Place, NoPlace, InRegister, InSlot}
use Rattle.regalloc2_carry.specs.OperandsPlaced.{What, Held}
use Rattle.regalloc2_semantics.proofs.Cells.{is_register-same}
use Rattle.regalloc2_fastalloc_state.specs.declared.inst_regs.InstRegs.{InstRegs}
use Rattle.regalloc2_fastalloc_proofs.specs.InstSteps.{StateValue, SameMachine, AllocsScratchReg, dedicated_scratch, had, found}
use Rattle.regalloc2_fastalloc_proofs.proofs.Safety.StepsKeepState.{place_in}
use Rattle.regalloc2_fastalloc_proofs.proofs.Evictions.EvictVReg.{held_early, held_late, Kept}

-- no vreg is located in the register, no definition is placed there, and no operand claims it
pub record IsIdle (here : ℕ → Place) (claimed : ℕ → Bool) (X : Place → ℕ → Bool) (by : Register) (t : StateValue) : Type 0 where
  pub no_allocs : (x : ℕ) → place_in t x ≡ InRegister by → ⊥
  pub clear : (u : ℕ) → X (InRegister by) u ≡ false
  pub unclaimed : (j : ℕ) → claimed j ≡ true → here j ≡ InRegister by → ⊥

-- the register that was taken for moves at this instruction, or is reserved for all
pub data IsScratch (class : RegClass) (u : InstRegs) (t : StateValue) (by : Register) : Type 0 where
  of_machine : slice_index_or t.dedicated_scratch (class_code class) None ≡ Some by → IsScratch class u t by
  taken : slice_index_or u.scratch (class_code class) None ≡ Some by → IsScratch class u t by

-- the machine's registers: allocatable ones, fixed stack slots and the ones reserved for moves are disjoint, and have
-- numbers below 64
pub record Fit (t : StateValue) : Type 0 where
  pub small : (r : Register) → (has_register t.allocatable r ≡ true) ⊎ (has_register t.fixed_stack r ≡ true) → r.number < 64
  pub stack_apart : (r : Register) → has_register t.allocatable r ≡ true → has_register t.fixed_stack r ≡ false
  pub own_apart : (c : RegClass) (b : Register) → slice_index_or t.dedicated_scratch (class_code c) None ≡ Some b → (has_register t.allocatable b ≡ false)
      × (has_register t.fixed_stack b ≡ false)

-- scratch registers are idle; the ones taken at this instruction are allocatable, and held at both positions
pub record Spare (here : ℕ → Place) (claimed : ℕ → Bool) (X : Place → ℕ → Bool) (u : InstRegs) (t : StateValue) : Type 0 where
  pub idle : (c : RegClass) (b : Register) → IsScratch c u t b → IsIdle here claimed X b t
  pub own : (c : RegClass) (b : Register) → slice_index_or u.scratch (class_code c) None ≡ Some b → has_register t.allocatable b ≡ true
  pub early : (c : RegClass) (b : Register) → slice_index_or u.scratch (class_code c) None ≡ Some b → has_register u.early b ≡ false
  pub late : (c : RegClass) (b : Register) → slice_index_or u.scratch (class_code c) None ≡ Some b → has_register u.late b ≡ false

-- the order in which registers were used doesn't matter
pub fit_used : (t : StateValue) (order : List (List Register)) → Fit t → Fit (record t { lrus = order })
fit_used t order f = record { small = f.small; stack_apart = f.stack_apart; own_apart = f.own_apart }

scratch_before : (c : RegClass) (u : InstRegs) (t : StateValue) (order : List (List Register)) (b : Register) → IsScratch c u (record t { lrus = order }) b →
    IsScratch c u t b
scratch_before c u t order b (of_machine e) = of_machine e
scratch_before c u t order b (taken e) = taken e

pub spare_used : (here : ℕ → Place) (claimed : ℕ → Bool) (X : Place → ℕ → Bool) (u : InstRegs) (t : StateValue) (order : List (List Register)) →
    Spare here claimed X u t → Spare here claimed X u (record t { lrus = order })
spare_used here claimed X u t order s = record {
  idle = λ c b is. (let y = s.idle c b (scratch_before c u t order b is) in record { no_allocs = y.no_allocs; clear = y.clear; unclaimed = y.unclaimed });
  own = s.own;
  early = s.early;
  late = s.late;
}

-- at least as many registers are held
pub record Less (t u : InstRegs) : Type 0 where
  pub early : (q : Register) → has_register t.early q ≡ false → has_register u.early q ≡ false
  pub late : (q : Register) → has_register t.late q ≡ false → has_register u.late q ≡ false

-- an instruction's registers that don't change have no more available ones
pub less_same : (t u : InstRegs) → u ≡ t → Less t u
less_same t u e = record {
  early = λ q h. ap (λ (y : InstRegs). has_register y.early q) e ∙ h;
  late = λ q h. ap (λ (y : InstRegs). has_register y.late q) e
      ∙ h;
}

-- if no register becomes available in either of two steps, none does over both
pub less_trans : (t u w : InstRegs) → Less t u → Less u w → Less t w
less_trans t u w a b = record { early = λ q h. b.early q (a.early q h); late = λ q h. b.late q (a.late q h) }

and_false : (a b c : Bool) → c ≡ (a && b) → b ≡ false → c ≡ false
and_false true b c e h = e ∙ h
and_false false b c e h = e

pub and_none : (a b c : Bool) → c ≡ (not a && b) → a ≡ true → c ≡ false
and_none true b c e h = e
and_none false b c e h = absurd cc

-- taking a scratch register makes no register available
pub allocs_scratch_reg_less : (point : ℕ) (class : RegClass) (t u : InstRegs) (by : Register) (old new : StateValue) →
    AllocsScratchReg point class t u by old new
    → Less t u
allocs_scratch_reg_less point class t u by old new (dedicated_scratch o eu en) = less_same t u eu
allocs_scratch_reg_less point class t u by old new (had none o eu en) = less_same t u eu
allocs_scratch_reg_less point class t u by old new (found none unset may early late less_e less_l set evicts) = record {
  early = λ q h. and_false (not (is_register by q)) (has_register t.early q) (has_register u.early q) (less_e q) h;
  late = λ q h. and_false (not (is_register by q)) (has_register t.late q) (has_register u.late q) (less_l q) h;
}

-- an item of a table in which one entry was set is the new item, or was there before
pub set_found : (xs : List (Option Register)) (k j : ℕ) (v b : Register) → slice_index_or (slice_set xs k (Some v)) j None ≡ Some b → (b ≡ v)
    ⊎ (slice_index_or xs j None ≡ Some b)
set_found [] k j v b e = absurd cc
set_found (x ∷ xs) zero zero v b e = inl cc
set_found (x ∷ xs) zero (suc j) v b e = inr e
set_found (x ∷ xs) (suc k) zero v b e = inr e
set_found (x ∷ xs) (suc k) (suc j) v b e = set_found xs k j v b e

-- a register with no vreg, definition or claim stays so over evictions
pub idle_kept : (here : ℕ → Place) (claimed : ℕ → Bool) (X : Place → ℕ → Bool) (b : Register) (old new : StateValue) → Kept old new →
    IsIdle here claimed X b old → IsIdle here claimed X b new
idle_kept here claimed X b old new k s = record { no_allocs = λ x e. s.no_allocs x (k.registers x b e); clear = s.clear; unclaimed = s.unclaimed }

-- a scratch register of a class was one before a step that keeps the machine
pub scratch_back : (c : RegClass) (u : InstRegs) (old new : StateValue) (b : Register) → SameMachine old new → IsScratch c u new b → IsScratch c u old b
scratch_back c u old new b m (of_machine e) = of_machine (ap (λ l. slice_index_or l (class_code c) None) (sym m.dedicated_scratch) ∙ e)
scratch_back c u old new b m (taken e) = taken e

-- scratch registers stay idle over evictions
pub spare_kept : (here : ℕ → Place) (claimed : ℕ → Bool) (X : Place → ℕ → Bool) (u : InstRegs) (old new : StateValue) → Kept old new →
    Spare here claimed X u old → Spare here claimed X u new
spare_kept here claimed X u old new k s = record {
  idle = λ c b is. idle_kept here claimed X b old new k (s.idle c b (scratch_back c u old new b k.machine is));
  own = λ c b e. ap (λ l. has_register l b) k.machine.allocatable ∙ s.own c b e;
  early = s.early;
  late = s.late;
}

-- scratch registers stay idle where neither the state nor the instruction's registers change
pub spare_same : (here : ℕ → Place) (claimed : ℕ → Bool) (X : Place → ℕ → Bool) (t u : InstRegs) (old new : StateValue) → u ≡ t → new ≡ old →
    Spare here claimed X t old → Spare here claimed X u new
spare_same here claimed X t u old new eu en s = subst (λ (y : InstRegs). Spare here claimed X y new) (sym eu) (subst (Spare here claimed X t) (sym en) s)

-- scratch registers stay spare with one more
pub spare_more : (here : ℕ → Place) (claimed : ℕ → Bool) (X : Place → ℕ → Bool) (point : ℕ) (class : RegClass) (t u : InstRegs) (by : Register)
    (old new : StateValue) → AllocsScratchReg point class t u by old new →
    IsIdle here claimed X by new → Kept old new → Spare here claimed X t old → Spare here claimed X u new
spare_more here claimed X point class t u by old new (dedicated_scratch o eu en) idle k s = spare_same here claimed X t u old new eu en s
spare_more here claimed X point class t u by old new (had none o eu en) idle k s = spare_same here claimed X t u old new eu en s
spare_more here claimed X point class t u by old new (found none unset may early late less_e less_l set evicts) idle k s =
    let which : (c : RegClass) (b : Register) → slice_index_or u.scratch (class_code c) None ≡ Some b → (b ≡ by)
    ⊎ (slice_index_or t.scratch (class_code c) None ≡ Some b) = λ c b e.
    set_found t.scratch (class_code class) (class_code c) by b (ap (λ l. slice_index_or l (class_code c) None) (sym set) ∙ e) in
    let kept : Spare here claimed X t new = spare_kept here claimed X t old new k s in
    record {
      idle = λ c b is. elim is [
        | of_machine e ↦ kept.idle c b (of_machine e)
        | taken e ↦ elim (which c b e) [
          | inl a ↦ subst (λ r. IsIdle here claimed X r new) (sym a) idle
          | inr a ↦ kept.idle c b (taken a)
        ]
      ];
      own = λ c b e. elim (which c b e) [
        | inl a ↦ (ap (λ l. has_register l b) k.machine.allocatable ∙ ap (has_register old.allocatable) a ∙ may.allocatable)
        | inr a ↦ kept.own c b a
      ];
      early = λ c b e. elim (which c b e) [
        | inl a ↦ and_none (is_register by b) (has_register t.early b) (has_register u.early b) (less_e b) (ap (is_register by) a ∙ is_register-same by)
        | inr a ↦ and_false (not (is_register by b)) (has_register t.early b) (has_register u.early b) (less_e b) (s.early c b a)
      ];
      late = λ c b e. elim (which c b e) [
        | inl a ↦ and_none (is_register by b) (has_register t.late b) (has_register u.late b) (less_l b) (ap (is_register by) a ∙ is_register-same by)
        | inr a ↦ and_false (not (is_register by b)) (has_register t.late b) (has_register u.late b) (less_l b) (s.late c b a)
      ];
    }

-- a scratch register is no fixed stack slot
pub scratch_off : (here : ℕ → Place) (claimed : ℕ → Bool) (X : Place → ℕ → Bool) (point : ℕ) (class : RegClass) (t u : InstRegs) (by : Register)
    (old new : StateValue) → AllocsScratchReg point class t u by old new →
    Fit old → Spare here claimed X t old → has_register old.fixed_stack by ≡ false
scratch_off here claimed X point class t u by old new (dedicated_scratch o eu en) f s = (f.own_apart class by o).1
scratch_off here claimed X point class t u by old new (had none o eu en) f s = f.stack_apart by (s.own class by o)
scratch_off here claimed X point class t u by old new (found none unset may early late less_e less_l set evicts) f s = f.stack_apart by may.allocatable

-- registers that fit still fit after a step that keeps the machine
pub fit_same : (old new : StateValue) → SameMachine old new → Fit old → Fit new
fit_same old new m f = record {
  small = λ r h. f.small r (⊎_elim (λ (e : has_register new.allocatable r ≡ true). inl (ap (λ l. has_register l r) (sym m.allocatable) ∙ e))
      (λ (e : has_register new.fixed_stack r ≡ true). inr (ap (λ l. has_register l r) (sym m.fixed_stack) ∙ e)) h);
  stack_apart = λ r e. ap (λ l. has_register l r) m.fixed_stack ∙ f.stack_apart r (ap (λ l. has_register l r) (sym m.allocatable) ∙ e);
  own_apart = λ c b e. let x = f.own_apart c b (ap (λ l. slice_index_or l (class_code c) None) (sym m.dedicated_scratch) ∙ e) in
      (ap (λ l. has_register l b) m.allocatable ∙ x.0, ap (λ l. has_register l b) m.fixed_stack ∙ x.1);
}

-- a held register stays held if fewer are free
held_less : (a b c : Bool) → b ≡ (c && a) → not a ≡ true → not b ≡ true
held_less true b c e h = absurd cc
held_less false b true e h = subst (λ x. not x ≡ true) (sym e) refl
held_less false b false e h = subst (λ x. not x ≡ true) (sym e) refl

-- what isn't available at the early position still isn't once one register is taken
pub less_early : (t u : InstRegs) (by : Register) → ((q : Register) → has_register u.early q ≡ not (is_register by q) && has_register t.early q) → (p : Place) →
    held_early t p ≡ true → held_early u p ≡ true
less_early t u by e NoPlace h = refl
less_early t u by e (InRegister q) h = held_less (has_register t.early q) (has_register u.early q) (not (is_register by q)) (e q) h
less_early t u by e (InSlot k) h = refl

-- what isn't available at the late position still isn't once one register is taken
pub less_late : (t u : InstRegs) (by : Register) → ((q : Register) → has_register u.late q ≡ not (is_register by q) && has_register t.late q) → (p : Place) →
    held_late t p ≡ true → held_late u p ≡ true
less_late t u by e NoPlace h = refl
less_late t u by e (InRegister q) h = held_less (has_register t.late q) (has_register u.late q) (not (is_register by q)) (e q) h
less_late t u by e (InSlot k) h = refl

-- places that operands claimed stay held if more is held at each position
pub held_keeps : (what : ℕ → What) (here : ℕ → Place) (claimed : ℕ → Bool) (early late early2 late2 : Place → Bool) →
    ((p : Place) → early p ≡ true → early2 p ≡ true) → ((p : Place) → late p ≡ true → late2 p ≡ true) →
    Held what here claimed early late → Held what here claimed early2 late2
held_keeps what here claimed early late early2 late2 a b h = record {
  early_uses = λ i c u. a (here i) (h.early_uses i c u);
  early_defs = λ i c u. a (here i) (h.early_defs i c u);
  late_defs = λ i c u. b (here i) (h.late_defs i c u);
  late_uses = λ i c u. b (here i) (h.late_uses i c u);
}

-- no operand claims a register that is free at both positions
pub free_unclaimed : (what : ℕ → What) (here : ℕ → Place) (claimed : ℕ → Bool) (u : InstRegs) (by : Register) → has_register u.early by ≡ true →
    has_register u.late by ≡ true →
    Held what here claimed (held_early u) (held_late u) → (j : ℕ) → claimed j ≡ true → here j ≡ InRegister by → ⊥
free_unclaimed what here claimed u by e l h j c at = ⊎_elim
    (λ (d : (what j).is_def ≡ true). let x : not (has_register u.late by) ≡ true = ap (held_late u) (sym at) ∙ h.late_defs j c d in
    let y : not true ≡ true = ap not (sym l) ∙ x in cc)
    (λ (d : (what j).is_def ≡ false). let x : not (has_register u.early by) ≡ true = ap (held_early u) (sym at) ∙ h.early_uses j c d in
    let y : not true ≡ true = ap not (sym e) ∙ x in cc)
    (cases_Bool (what j).is_def)
