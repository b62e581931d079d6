-- Registers are emptied, and scratch registers are taken.
-- The fold in `Changes` doesn't apply: what the listing carries, or the operands' record, differs from step to step.
use Rattle.std.proofs.Common.{ℕ, ◌≡◌, ◌≢◌, Bool, true, false, List, refl, sym, ap, ◌∙◌, subst, inl, inr}
use Rattle.std.specs.Prelude.{None, Some, not}
use Rattle.std.proofs.lemmas.Bool.{cases_eq}
use Rattle.regalloc2_names.specs.Register.{Register, VirtualRegister, has_register}
use Rattle.regalloc2_names.specs.Place.{Place, NoPlace, InRegister, InSlot, after}
use Rattle.regalloc2_function.specs.OutputValue.{MoveValue}
use Rattle.regalloc2_carry.specs.OperandsPlaced.{What, Progress}
use Rattle.regalloc2_fastalloc_state.specs.declared.inst_regs.InstRegs.{InstRegs}
use Rattle.regalloc2_fastalloc_proofs.specs.InstSteps.{StateValue, SameMachine, EvictsVReg, none_held, moved}
use Rattle.regalloc2_fastalloc_proofs.specs.Safety.{IsWhole}
use Rattle.regalloc2_fastalloc_proofs.proofs.Safety.StepsKeepState.{place_in, slot_in}
use Rattle.regalloc2_fastalloc_proofs.proofs.Operands.RecordOverState.{location_at, slots_at, opt_from, Located, OwesPlaces, Shifts, shifts, shift_whole}
use Rattle.regalloc2_fastalloc_proofs.proofs.Operands.RecordOverState.{located_after_shift, shift_owes}
use Rattle.regalloc2_fastalloc_proofs.proofs.Operands.BlockTail.{BlockTail}

-- what is held at the two positions: registers that aren't free; slots always are
abbrev pub held_early : InstRegs → Place → Bool
held_early u NoPlace = true
held_early u (InRegister r) = not (has_register u.early r)
held_early u (InSlot k) = true

-- a place that isn't available at the late position: a register that is taken, or any place that is no register
abbrev pub held_late : InstRegs → Place → Bool
held_late u NoPlace = true
held_late u (InRegister r) = not (has_register u.late r)
held_late u (InSlot k) = true

-- what no eviction changes
pub record Kept (old new : StateValue) : Type 0 where
  pub slots : (x : ℕ) (p : Place) → slots_at old x ≡ Some p → slots_at new x ≡ Some p
  pub registers : (x : ℕ) (q : Register) → place_in new x ≡ InRegister q → place_in old x ≡ InRegister q
  pub nowhere : (x : ℕ) → place_in old x ≡ NoPlace → place_in new x ≡ NoPlace
  pub slotted : (x k : ℕ) → place_in old x ≡ InSlot k → place_in new x ≡ InSlot k
  pub unslotted : (x : ℕ) → place_in old x ≡ NoPlace → slot_in new x ≡ slot_in old x
  pub machine : SameMachine old new

-- a state that stays the same keeps what no eviction changes
pub kept_all : (t : StateValue) → Kept t t
kept_all t = record {
  slots = λ x p e. e;
  registers = λ x q e. e;
  nowhere = λ x e. e;
  slotted = λ x k e. e;
  unslotted = λ x e. refl;
  machine = record { allocatable = refl; fixed_stack = refl; dedicated_scratch = refl; sizes = refl; vregs = refl; num_temp_slots = refl };
}

-- the order in which registers were used doesn't matter
pub kept_used : (s t : StateValue) (order : List (List Register)) → Kept s t → Kept s (record t { lrus = order })
kept_used s t order k = record {
  slots = k.slots;
  registers = k.registers;
  nowhere = k.nowhere;
  slotted = k.slotted;
  unslotted = k.unslotted;
  machine = record {
    allocatable = k.machine.allocatable;
    fixed_stack = k.machine.fixed_stack;
    dedicated_scratch = k.machine.dedicated_scratch;
    sizes = k.machine.sizes;
    vregs = k.machine.vregs;
    num_temp_slots = k.machine.num_temp_slots;
  };
}

-- what no eviction changes excludes the edits, so they may be replaced
pub kept_edits : (s t : StateValue) (es : List (ℕ × MoveValue)) → Kept s t → Kept s (record t { edits = es })
kept_edits s t es k = record {
  slots = k.slots;
  registers = k.registers;
  nowhere = k.nowhere;
  slotted = k.slotted;
  unslotted = k.unslotted;
  machine = record {
    allocatable = k.machine.allocatable;
    fixed_stack = k.machine.fixed_stack;
    dedicated_scratch = k.machine.dedicated_scratch;
    sizes = k.machine.sizes;
    vregs = k.machine.vregs;
    num_temp_slots = k.machine.num_temp_slots;
  };
}

-- moving one vreg from its register to its spill slot preserves what evictions keep
pub shift_kept : (old new : StateValue) (v : VirtualRegister) (r : Register) (s : Place) → Shifts old new v r s →
    ((x : ℕ) → x ≢ v.number → place_in new x ≡ place_in old x) → place_in new v.number ≡ s → ((x : ℕ) → x ≢ v.number → slot_in new x ≡ slot_in old x) →
    SameMachine old new → Kept old new
shift_kept old new v r s h others here slots machine =
    let was : place_in old v.number ≡ InRegister r = opt_from (place_in old v.number) (InRegister r) h.was in
    record {
      slots = h.grows;
      registers = λ x q e. elim (cases_eq x v.number) [
        | inl a ↦ (let y : InSlot h.number ≡ InRegister q = sym h.is_slot ∙ sym here ∙ ap (place_in new) (sym a) ∙ e in absurd cc)
        | inr a ↦ sym (others x a) ∙ e
      ];
      nowhere = λ x e. elim (cases_eq x v.number) [
        | inl a ↦ (let y : InRegister r ≡ NoPlace = sym was ∙ ap (place_in old) (sym a) ∙ e in absurd cc)
        | inr a ↦ others x a ∙ e
      ];
      slotted = λ x k e. elim (cases_eq x v.number) [
        | inl a ↦ (let y : InRegister r ≡ InSlot k = sym was ∙ ap (place_in old) (sym a) ∙ e in absurd cc)
        | inr a ↦ others x a ∙ e
      ];
      unslotted = λ x e. slots x (λ a. let y : InRegister r ≡ NoPlace = sym was ∙ ap (place_in old) (sym a) ∙ e in cc);
      machine = machine;
    }

module _ (tail : BlockTail) where
  open tail use {Known, insts, placesf, i, n, E}

  -- a register is emptied whose vreg was live, and in which no definition is placed; what the listing carries may be
  -- stated of tables in which another vreg is elsewhere
  pub record Emptied (what : ℕ → What) (far : Progress) (r : Register)
      (old new : StateValue) : Type 0 where
    pub located : Located what far new
    pub owes : OwesPlaces tail far.lived far.out far.made_at (location_at new) (slots_at new) new.edits
    pub empty : (x : ℕ) → place_in new x ≡ InRegister r → ⊥
    pub others : (x : ℕ) → (place_in old x ≡ InRegister r → ⊥) → place_in new x ≡ place_in old x
    pub kept : Kept old new

  -- evicting an allocatable register empties it, moves no other vreg, and keeps the record of the operands with the
  -- reload listed
  pub evicts_vreg_step : (what : ℕ → What) (far : Progress) (r : Register)
      (old new : StateValue) → EvictsVReg (after i) r old new →
      ((x : ℕ) → location_at old x ≡ Some (InRegister r) → (far.lived x ≡ true) × ((u : ℕ) → far.made_at (InRegister r) u ≡ false)) →
      Located what far old → OwesPlaces tail far.lived far.out far.made_at (location_at old) (slots_at old) old.edits →
      Emptied what far r old new
  evicts_vreg_step what far r old new (none_held none same) may st o =
      subst (Emptied what far r old) (sym same) (record {
        located = st;
        owes = o;
        empty = λ x h. let y = st.whole.stands_in x r h in let z : None ≡ Some y.1.0 = sym none ∙ y.1.2 in cc;
        others = λ x h. refl;
        kept = kept_all old;
      })
  evicts_vreg_step what far r old new (moved v s lt held gives sets_alloc edits machine order) may st o =
      let w : IsWhole new = shift_whole old new v r s lt held gives sets_alloc st.whole in
      let h : Shifts old new v r s = shifts old new v r s lt held gives sets_alloc st.whole in
      let m = may v.number h.was in
      record {
        located = located_after_shift old new v r s w h what far m.0 st;
        owes = subst (OwesPlaces tail far.lived far.out far.made_at (location_at new) (slots_at new)) (sym edits)
            (shift_owes tail old new v r s h far.lived far.out far.made_at old.edits m.1 o);
        empty = h.empty;
        others = λ x ne. sets_alloc.others x (λ e. ne (opt_from (place_in old x) (InRegister r) (ap (location_at old) e ∙ h.was)));
        kept = shift_kept old new v r s h sets_alloc.others sets_alloc.here gives.others machine;
      }
