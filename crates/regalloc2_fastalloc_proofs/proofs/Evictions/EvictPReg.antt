-- A register or fixed stack slot is emptied, through a scratch register if both ends of the reload are on the stack.
-- The fold in `Changes` doesn't apply: what the listing carries, or the operands' record, differs from step to step.
use Rattle.std.proofs.Common.{ℕ, ◌≡◌, ◌≢◌, true, false, List, [], ◌∷◌, ◌++◌, refl, sym, ap, ◌∙◌, subst, inl, inr}
use Rattle.std.specs.Prelude.{Option, None, Some}
use Rattle.std.proofs.lemmas.Bool.{cases_eq, and_parts}
use Rattle.regalloc2_names.specs.declared.RegClass.{RegClass}
use Rattle.regalloc2_names.specs.Register.{Register, VirtualRegister, has_register}
use Rattle.regalloc2_names.specs.Place.{Place, NoPlace, InRegister, InSlot, after}
use Rattle.regalloc2_function.specs.OutputValue.{MoveValue}
use Rattle.regalloc2_carry.specs.Listing.{Item}
use Rattle.regalloc2_carry.specs.Listing.Item.{Move}
use Rattle.regalloc2_carry.specs.BlockByPoints.{after_part, listed}
use Rattle.regalloc2_carry.specs.Instruction.{Claims}
use Rattle.regalloc2_carry.specs.OperandsPlaced.{What, Progress, Need, located, in_slot, made, Held}
use Rattle.regalloc2_carry.proofs.NeedsAcrossMoves.{need_slot, claims_by_two_moves}
use Rattle.regalloc2_fastalloc_state.specs.declared.inst_regs.InstRegs.{InstRegs}
use Rattle.regalloc2_fastalloc_proofs.specs.InstSteps.{StateValue, is_stack_in, moved, direct, through, EvictsPReg, empty, cleared, EvictsOtherVRegs, own}
use Rattle.regalloc2_fastalloc_proofs.specs.InstSteps.{others, a_move}
use Rattle.regalloc2_fastalloc_proofs.specs.Safety.{IsWhole}
use Rattle.regalloc2_fastalloc_proofs.proofs.Safety.StepsKeepState.{place_in, slot_in, slot_no_register}
use Rattle.regalloc2_fastalloc_proofs.proofs.Operands.RecordOverState.{location_at, slots_at, opt, opt_from, Located, OwesPlaces, Shifts, shifts, shift_whole}
use Rattle.regalloc2_fastalloc_proofs.proofs.Operands.RecordOverState.{located_after_shift}
use Rattle.regalloc2_fastalloc_proofs.proofs.Evictions.EvictVReg.{held_early, held_late, Kept, kept_all, shift_kept, Emptied, evicts_vreg_step}
use Rattle.regalloc2_fastalloc_proofs.proofs.Moves.ScratchRegTaken.{IsIdle, IsScratch, of_machine, taken, Fit, Spare, spare_same, spare_kept, spare_more}
use Rattle.regalloc2_fastalloc_proofs.proofs.Moves.ScratchRegTaken.{scratch_off, fit_same}
use Rattle.regalloc2_fastalloc_proofs.proofs.Moves.ScratchRegMidMove.{put, put_same, put_other, owes_same, ScratchedBut, scratch_but, scratch_move_items}
use Rattle.regalloc2_fastalloc_proofs.proofs.Moves.ScratchRegMidMove.{scratch_move_later}
use Rattle.regalloc2_fastalloc_proofs.proofs.Operands.BlockTail.{BlockTail}

-- what no eviction changes, two steps keep if each does
pub kept_trans : (a b c : StateValue) → Kept a b → Kept b c → Kept a c
kept_trans a b c x y = record {
  slots = λ v p e. y.slots v p (x.slots v p e);
  registers = λ v q e. x.registers v q (y.registers v q e);
  nowhere = λ v e. y.nowhere v (x.nowhere v e);
  slotted = λ v k e. y.slotted v k (x.slotted v k e);
  unslotted = λ v e. y.unslotted v (x.nowhere v e) ∙ x.unslotted v e;
  machine = record {
    allocatable = y.machine.allocatable ∙ x.machine.allocatable;
    fixed_stack = y.machine.fixed_stack ∙ x.machine.fixed_stack;
    dedicated_scratch = y.machine.dedicated_scratch ∙ x.machine.dedicated_scratch;
    sizes = y.machine.sizes ∙ x.machine.sizes;
    vregs = y.machine.vregs
        ∙ x.machine.vregs;
    num_temp_slots = y.machine.num_temp_slots ∙ x.machine.num_temp_slots;
  };
}

scratch_of_edits : (t : StateValue) (es : List (ℕ × MoveValue)) (c : RegClass) (u : InstRegs) (b : Register) →
    IsScratch c u (record t { edits = t.edits ++ es }) b → IsScratch c u t b
scratch_of_edits t es c u b (of_machine e) = of_machine e
scratch_of_edits t es c u b (taken e) = taken e

module _ (tail : BlockTail) where
  open tail use {Known, insts, placesf, i, n, E}

  -- after an eviction: no vreg is in the register, and the records of the operands' places, scratch registers and
  -- listing are kept
  pub record Cleared (what : ℕ → What) (far : Progress) (r : Register)
      (u : InstRegs) (old new : StateValue) : Type 0 where
    pub located : Located what far new
    pub owes : OwesPlaces tail far.lived far.out far.made_at (location_at new) (slots_at new) new.edits
    pub held : Held what far.here far.claimed (held_early u) (held_late u)
    pub emptied : (x : ℕ) → place_in new x ≡ InRegister r → ⊥
    pub kept : Kept old new
    pub scratch_reserve : Spare far.here far.claimed far.made_at u new

  -- the reload through the scratch register
  scratch_reload_owes : (what : ℕ → What) (far : Progress) (v : ℕ) (r by : Register)
      (s : Place) (t new : StateValue) →
      (r ≡ by → ⊥) → s ≢ NoPlace → Located what far t → IsIdle far.here far.claimed far.made_at by t → location_at t v ≡ Some s →
      ((x : ℕ) → place_in t x ≡ InRegister r → ⊥) → ((u : ℕ) → far.made_at (InRegister r) u ≡ false) →
      OwesPlaces tail far.lived far.out far.made_at (put (location_at t) v (Some (InRegister r))) (slots_at t) t.edits →
      OwesPlaces tail far.lived far.out far.made_at (location_at t) (slots_at t)
      (t.edits ++ a_move (after i) (InRegister by) (InRegister r) ∷ a_move (after i) s (InRegister by) ∷ [])
  scratch_reload_owes what far v r by s t new apart real st idle alloc_of empty_register_at_no_location clear o =
      let L : List Item = after_part insts (listed t.edits) placesf i n in
      let T : ℕ → Option Place = put (location_at t) v (Some (InRegister r)) in
      let no_slot : (x : ℕ) (q : Register) → slots_at t x ≡ Some (InRegister q) →
      ⊥ = λ x q e. slot_no_register t.slots.count (slot_in t x) q (st.whole.below x) (opt_from (slot_in t x) (InRegister q) e) in
      let moves : Claims Known (Move (record { from = s; to = InRegister by }) ∷ (Move (record { from = InRegister by; to = InRegister r }) ∷ L))
      (Need far.lived far.out far.made_at (location_at t) (slots_at t)) E =
      claims_by_two_moves Known E L (Need far.lived far.out far.made_at T (slots_at t)) (Need far.lived far.out far.made_at (location_at t) (slots_at t)) s
      (InRegister by) (InRegister r) (λ z. cc)
      (λ z. cc)
      (λ x z. elim z [
        | located l e ↦ elim (cases_eq x v) [
          | inl d ↦ (let y : Some (InRegister r) ≡ Some (InRegister by) = sym (put_same (location_at t) v (Some (InRegister r)) x d) ∙ e in
              let same : r ≡ by = cc in apart same)
          | inr d ↦ idle.no_allocs x (opt_from (place_in t x) (InRegister by) (sym (put_other (location_at t) v (Some (InRegister r)) x d) ∙ e))
        ]
        | in_slot f e ↦ no_slot x by e
        | made m ↦ (let y = idle.clear x in cc)
      ])
      (λ x z. elim z [
        | located l e ↦ elim (cases_eq x v) [
          | inl d ↦ located l (ap (location_at t) d ∙ alloc_of)
          | inr d ↦ absurd (empty_register_at_no_location x (opt_from (place_in t x) (InRegister r) (sym (put_other (location_at t) v (Some (InRegister r)) x d) ∙ e)))
        ]
        | in_slot f e ↦ absurd (no_slot x r e)
        | made m ↦ (let y = clear x in absurd cc)
      ])
      (λ x q ne z. elim z [
        | located l e ↦ elim (cases_eq x v) [
          | inl d ↦ (let y : Some (InRegister r) ≡ Some q = sym (put_same (location_at t) v (Some (InRegister r)) x d) ∙ e in let same : q ≡ InRegister r = cc in
              absurd (ne same))
          | inr d ↦ located l (sym (put_other (location_at t) v (Some (InRegister r)) x d) ∙ e)
        ]
        | in_slot f e ↦ in_slot f e
        | made m ↦ made m
      ])
      o.claims in
      record {
        later = scratch_move_later tail s (InRegister by) (InRegister r) t.edits o.later;
        claims = subst (λ l. Claims Known l (Need far.lived far.out far.made_at (location_at t) (slots_at t)) E)
            (sym (scratch_move_items tail s (InRegister by) (InRegister r) t.edits)) moves;
      }

  -- scratch registers aren't fixed stack slots
  pub evicts_preg_step : (what : ℕ → What) (far : Progress) (r : Register)
      (t u : InstRegs) (old new : StateValue) → EvictsPReg (after i) r t u old new →
      ((x : ℕ) → location_at old x ≡ Some (InRegister r) → (far.lived x ≡ true) × ((w : ℕ) → far.made_at (InRegister r) w ≡ false)) →
      Spare far.here far.claimed far.made_at t old → Fit old →
      Held what far.here far.claimed (held_early t) (held_late t) →
      Located what far old → OwesPlaces tail far.lived far.out far.made_at (location_at old) (slots_at old) old.edits →
      Cleared what far r u old new
  evicts_preg_step what far r t u old new (empty none eu en) may sp f h st o =
      subst (Cleared what far r u old) (sym en) (record {
        located = st;
        owes = o;
        held = subst (λ (y : InstRegs). Held what far.here far.claimed (held_early y) (held_late y)) (sym eu) h;
        emptied = λ x g. let y = st.whole.stands_in x r g in let z : None ≡ Some y.1.0 = sym none ∙ y.1.2 in cc;
        kept = kept_all old;
        scratch_reserve = spare_same far.here far.claimed far.made_at t u old old eu refl sp;
      })
  evicts_preg_step what far r t u old new (cleared v s m lt held gives sets_alloc edits machine order (direct flat eu en)) may sp f h st o =
      let p : StateValue = record m { edits = m.edits ++ a_move (after i) s (InRegister r) ∷ [] } in
      let e : Emptied tail what far r old p =
      evicts_vreg_step tail what far r old p
      (moved v s lt held gives sets_alloc (ap (λ es. es ++ a_move (after i) s (InRegister r) ∷ []) edits)
      (record {
        allocatable = machine.allocatable;
        fixed_stack = machine.fixed_stack;
        dedicated_scratch = machine.dedicated_scratch;
        sizes = machine.sizes;
        vregs = machine.vregs;
        num_temp_slots = machine.num_temp_slots;
      }) order) may st o in
      subst (Cleared what far r u old) (sym en) (record {
        located = e.located;
        owes = e.owes;
        held = subst (λ (y : InstRegs). Held what far.here far.claimed (held_early y) (held_late y)) (sym eu) h;
        emptied = e.empty;
        kept = e.kept;
        scratch_reserve = spare_same far.here far.claimed far.made_at t u p p eu refl (spare_kept far.here far.claimed far.made_at t old p e.kept sp);
      })
  evicts_preg_step what far r t u old new (cleared v s m lt held gives sets_alloc edits machine order (through by m2 stack scratches en)) may
      sp f h st o =
      let w : IsWhole m = shift_whole old m v r s lt held gives sets_alloc st.whole in
      let g : Shifts old m v r s = shifts old m v r s lt held gives sets_alloc st.whole in
      let ok = may v.number g.was in
      let stm : Located what far m = located_after_shift old m v r s w g what far ok.0 st in
      let k : Kept old m = shift_kept old m v r s g sets_alloc.others sets_alloc.here gives.others machine in
      let spm : Spare far.here far.claimed far.made_at t m = spare_kept far.here far.claimed far.made_at t old m k sp in
      let T : ℕ → Option Place = put (location_at m) v.number (Some (InRegister r)) in
      let there : OwesPlaces tail far.lived far.out far.made_at T (slots_at old) old.edits =
      owes_same tail far.lived far.out far.made_at (location_at old) T (slots_at old) old.edits
      (λ x. elim (cases_eq x v.number) [
        | inl d ↦ (put_same (location_at m) v.number (Some (InRegister r)) x d ∙ sym g.was ∙ ap (location_at old) (sym d))
        | inr d ↦ (put_other (location_at m) v.number (Some (InRegister r)) x d ∙ g.same x d)
      ]) o in
      let om : OwesPlaces tail far.lived far.out far.made_at T (slots_at m) m.edits =
      subst (OwesPlaces tail far.lived far.out far.made_at T (slots_at m)) (sym edits)
      (record {
        later = there.later;
        claims = need_slot Known E (after_part insts (listed old.edits) placesf i n) far.lived far.out far.made_at T (slots_at old) (slots_at m)
            g.grows there.claims;
      }) in
      let apart : r ≡ by → ⊥ = λ e.
      let on : has_register m.fixed_stack r ≡ true = (and_parts (is_stack_in m s) (is_stack_in m (InRegister r)) stack).1 in
      let no : has_register m.fixed_stack r ≡ false = ap (has_register m.fixed_stack) e
      ∙ scratch_off far.here far.claimed far.made_at (after i) v.class t u by m m2 scratches (fit_same old m machine f) spm in cc in
      let sb : ScratchedBut tail what far far.out u by v.number (Some (InRegister r)) m m2 =
      scratch_but tail scratches
      (spm.idle v.class) h (λ e. let same : r ≡ by = cc in apart same)
      (λ e. let y : InSlot g.number ≡ InRegister by = sym g.is_slot ∙ sym sets_alloc.here ∙ e in cc) stm om in
      let still : location_at m2 v.number ≡ Some s = ap opt (sb.kept.slotted v.number g.number (sets_alloc.here ∙ g.is_slot)) ∙ ap Some (sym g.is_slot) in
      let gone : (x : ℕ) → place_in m2 x ≡ InRegister r → ⊥ = λ x e. g.empty x (sb.kept.registers x r e) in
      let done_it = scratch_reload_owes what far v.number r by s m2 new apart g.real sb.located sb.idle still gone ok.1 sb.owes in
      let spu : Spare far.here far.claimed far.made_at u m2 = spare_more far.here far.claimed far.made_at (after i) v.class t u by m m2 scratches sb.idle
      sb.kept spm in
      let all : Kept old m2 = kept_trans old m m2 k sb.kept in
      subst (Cleared what far r u old) (sym en) (record {
        located = record {
          whole = record {
            holds = sb.located.whole.holds;
            stands_in = sb.located.whole.stands_in;
            own_slot = sb.located.whole.own_slot;
            below = sb.located.whole.below;
            own = sb.located.whole.own;
            units = sb.located.whole.units;
          };
          placed = sb.located.placed;
          below = sb.located.below;
          unclobbered = sb.located.unclobbered;
        };
        owes = done_it;
        held = sb.held;
        emptied = gone;
        kept = record {
          slots = all.slots;
          registers = all.registers;
          nowhere = all.nowhere;
          slotted = all.slotted;
          unslotted = all.unslotted;
          machine = record {
            allocatable = all.machine.allocatable;
            fixed_stack = all.machine.fixed_stack;
            dedicated_scratch = all.machine.dedicated_scratch;
            sizes = all.machine.sizes;
            vregs = all.machine.vregs;
            num_temp_slots = all.machine.num_temp_slots;
          };
        };
        scratch_reserve = record {
          idle = λ c b is. let y = spu.idle c b
              (scratch_of_edits m2 (a_move (after i) (InRegister by) (InRegister r) ∷ a_move (after i) s (InRegister by) ∷ []) c u b is) in
              record { no_allocs = y.no_allocs; clear = y.clear; unclaimed = y.unclaimed };
          own = spu.own;
          early = spu.early;
          late = spu.late;
        };
      })

  -- a register is the vreg's: no other vreg is there
  pub record Owned (what : ℕ → What) (far : Progress) (r : Register)
      (v : VirtualRegister) (u : InstRegs) (old new : StateValue) : Type 0 where
    pub located : Located what far new
    pub owes : OwesPlaces tail far.lived far.out far.made_at (location_at new) (slots_at new) new.edits
    pub held : Held what far.here far.claimed (held_early u) (held_late u)
    pub only_vreg : (x : ℕ) → place_in new x ≡ InRegister r → x ≡ v.number
    pub kept : Kept old new
    pub scratch_reserve : Spare far.here far.claimed far.made_at u new

  -- after an eviction that spares one vreg the register has that vreg alone, or none, and the records are kept
  pub evicts_other_vregs_step : (what : ℕ → What) (far : Progress) (r : Register)
      (v : VirtualRegister) (t u : InstRegs) (old new : StateValue) → EvictsOtherVRegs (after i) r v t u old new →
      ((x : ℕ) → location_at old x ≡ Some (InRegister r) → (x ≡ v.number → ⊥) → (far.lived x ≡ true) × ((w : ℕ) → far.made_at (InRegister r) w ≡ false)) →
      Spare far.here far.claimed far.made_at t old → Fit old →
      Held what far.here far.claimed (held_early t) (held_late t) →
      Located what far old → OwesPlaces tail far.lived far.out far.made_at (location_at old) (slots_at old) old.edits →
      Owned what far r v u old new
  evicts_other_vregs_step what far r v t u old new (own w there same eu en) may sp f h st o =
      subst (Owned what far r v u old) (sym en) (record {
        located = st;
        owes = o;
        held = subst (λ (y : InstRegs). Held what far.here far.claimed (held_early y) (held_late y)) (sym eu) h;
        only_vreg = λ x g. let y = st.whole.stands_in x r g in let z : Some y.1.0 ≡ Some w = sym y.1.2 ∙ there in let one : y.1.0 ≡ w = cc in sym y.1.1
            ∙ ap (λ (q : VirtualRegister). q.number) one ∙ same;
        kept = kept_all old;
        scratch_reserve = spare_same far.here far.claimed far.made_at t u old old eu refl sp;
      })
  evicts_other_vregs_step what far r v t u old new (others not_own clears) may sp f h st o =
      let c : Cleared what far r u old new = evicts_preg_step what far r t u old new clears
      (λ x at. may x at (λ e. let y = st.whole.stands_in x r (opt_from (place_in old x) (InRegister r) at) in not_own y.1.0 y.1.2 (y.1.1 ∙ e))) sp f h st o in
      record {
        located = c.located;
        owes = c.owes;
        held = c.held;
        only_vreg = λ x g. absurd (c.emptied x g);
        kept = c.kept;
        scratch_reserve = c.scratch_reserve;
      }
