-- An operand that got its place is placed: a use's vreg is there if it had no location, a definition's vreg leaves the
-- tables.
use Rattle.std.proofs.Common.{ℕ, ◌≡◌, ◌≢◌, Bool, true, false, cond, List, refl, sym, ap, ◌∙◌, subst, inl, inr, ◌⊎◌, ⊎_elim, nat_eq, eq-eqb}
use Rattle.std.specs.Prelude.{None, ◌&&◌}
use Rattle.std.proofs.lemmas.Bool.{cases_Bool, cases_eq, eqb-true}
use Rattle.regalloc2_names.specs.Register.{VirtualRegister, has_register}
use Rattle.regalloc2_names.specs.Operand.{OperandValue, is_def}
use Rattle.regalloc2_names.specs.Place.{Place, NoPlace, InRegister, InSlot, is_place, after}
use Rattle.regalloc2_carry.specs.Instruction.{Claims}
use Rattle.regalloc2_carry.specs.BlockByPoints.{AllFrom, after_part, listed}
use Rattle.regalloc2_carry.specs.OperandsPlaced.{what_of, Counts, Progress, Once, Need, Places, PlacesDefinition}
use Rattle.regalloc2_semantics.proofs.Cells.{is_place-same, is_place-true}
use Rattle.regalloc2_carry.proofs.NeedsAcrossMoves.{need_new}
use Rattle.regalloc2_fastalloc_state.specs.declared.inst_regs.InstRegs.{InstRegs}
use Rattle.regalloc2_fastalloc_state.specs.StateParts.{SpillSlotsValue, slot_name, SetsAlloc}
use Rattle.regalloc2_function.specs.FunctionValue.{op_at}
use Rattle.regalloc2_fastalloc_proofs.specs.InstSteps.{StateValue, SameMachine, LocatesUse, stays, located, FreesAlloc}
use Rattle.regalloc2_fastalloc_proofs.specs.Safety.{IsWhole}
use Rattle.regalloc2_fastalloc_proofs.proofs.Safety.StepsKeepState.{place_in, slot_in}
use Rattle.regalloc2_fastalloc_proofs.proofs.Operands.RecordOverState.{opt, location_at, slots_at}
use Rattle.regalloc2_fastalloc_proofs.proofs.Moves.ScratchRegTaken.{scratch_back, fit_same}
use Rattle.regalloc2_fastalloc_proofs.proofs.Operands.ClaimAndUse.{PlacesUse, use_stays}
use Rattle.regalloc2_fastalloc_proofs.proofs.Inst.AcrossInst.{arrive_register, arrive_slot, use_arrives}
use Rattle.regalloc2_fastalloc_proofs.proofs.Operands.RecordOfInst.{Ready}
use Rattle.regalloc2_fastalloc_proofs.proofs.Evictions.EvictKeepsRecord.{NoneNeeded}
use Rattle.regalloc2_fastalloc_proofs.proofs.Operands.DefRecord.{frees_alloc_step}
use Rattle.regalloc2_fastalloc_proofs.proofs.Operands.AllocOperand.{Got, and_one, and_one_same, and_one_grows, and_one_keeps}
use Rattle.regalloc2_fastalloc_proofs.proofs.Operands.BlockTail.{BlockTail}

-- operand k is marked as done, and no other one changes
pub places_one : (done : ℕ → Bool) (k : ℕ) → Places done (and_one done k) k
places_one done k = record { grows = and_one_grows done k; keeps = and_one_keeps done k; places = and_one_same done k k refl }

-- the definition k writes p
abbrev pub made_one : (Place → ℕ → Bool) → Place → ℕ → Place → ℕ → Bool
made_one X p v = λ q w. cond (is_place q p && nat_eq w v) true (X q w)

both_true : (a b c : Bool) → cond (a && b) true c ≡ true → ((a ≡ true) × (b ≡ true)) ⊎ (c ≡ true)
both_true true true c e = inl (refl, refl)
both_true true false c e = inr e
both_true false b c e = inr e

keeps_true : (a c : Bool) → c ≡ true → cond a true c ≡ true
keeps_true true c e = refl
keeps_true false c e = e

-- operand k's definition adds its number to the defined numbers, and its value to the written values, in its place;
-- nothing else is added
pub makes_one : (ops : List OperandValue) (here : ℕ → Place) (out : ℕ → Bool) (X : Place → ℕ → Bool) (k : ℕ) →
    PlacesDefinition (what_of ops) here out (and_one out (op_at ops k).vreg.number) X (made_one X (here k) (op_at ops k).vreg.number) k
makes_one ops here out X k = record {
  out_grows = and_one_grows out (op_at ops k).vreg.number;
  out_keeps = and_one_keeps out (op_at ops k).vreg.number;
  is_out = and_one_same out (op_at ops k).vreg.number (op_at ops k).vreg.number refl;
  grows = λ p w e. elim (both_true (is_place p (here k)) (nat_eq w (op_at ops k).vreg.number) (X p w) e) [
    | inl h ↦ inl (is_place-true p (here k) h.0, eqb-true w (op_at ops k).vreg.number h.1)
    | inr h ↦ inr h
  ];
  keeps = λ p w e. keeps_true (is_place p (here k) && nat_eq w (op_at ops k).vreg.number) (X p w) e;
  is_made = ap (λ b. cond (b && nat_eq (op_at ops k).vreg.number (op_at ops k).vreg.number) true (X (here k) (op_at ops k).vreg.number))
      (is_place-same (here k))
      ∙ ap (λ b. cond b true (X (here k) (op_at ops k).vreg.number)) (eq-eqb (op_at ops k).vreg.number (op_at ops k).vreg.number refl);
}

module _ (tail : BlockTail) (ops : List OperandValue) (far : Progress) (ends_block : Bool) (k : ℕ) (once : Once (Counts ops) (what_of ops)) where
  open tail use {Known, insts, placesf, i, n, E}

  module _ (p : Place) (u : InstRegs) (old : StateValue) (g : Got tail ops far ends_block k p u old) where
    abbrev num : ℕ
    num = (op_at ops k).vreg.number

    -- a use
    module _ (v : VirtualRegister) (nv : v.number ≡ (op_at ops k).vreg.number) (is_use : is_def (op_at ops k).kind ≡ false) where
      counts_k : Counts ops k
      counts_k = g.ready.within k g.claims

      unmade : (j : ℕ) → far.done j ≡ true → is_def (op_at ops j).kind ≡ true → (op_at ops j).vreg.number ≡ num → ⊥
      unmade j d def e = once.unread j k (g.ready.within j (g.ready.located.placed.claims j d)) counts_k def is_use e

      placed_use : PlacesUse (what_of ops) (record far { here = g.there; claimed = g.claimed2 }) (and_one far.done k) k
      placed_use = record { places = places_one far.done k; claims = g.claims; is_use = is_use }

      real : g.there k ≢ NoPlace
      real = g.ready.located.placed.there k g.claims

      arrive_whole : (new : StateValue) (q : Place) → p ≡ q → q ≢ NoPlace → place_in old v.number ≡ NoPlace → SetsAlloc old.places new.places v q →
          new.slots ≡ old.slots → IsWhole new
      arrive_whole new NoPlace at ne nowhere z slots = absurd (ne refl)
      arrive_whole new (InRegister r) at ne nowhere z slots =
          arrive_register old new v nowhere slots g.ready.located.whole r (g.ready.small k r g.claims (g.at_k ∙ at))
          (λ x e. let y : NoPlace ≡ InRegister r = sym nowhere ∙ ap (place_in old) (nv ∙ sym (g.only_vreg r at x e)) ∙ e in cc) z
      arrive_whole new (InSlot m) at ne nowhere z slots = arrive_slot old new v nowhere slots g.ready.located.whole m (ap (slot_in old) nv ∙ g.own_slot m at) z

      use_new : (new : StateValue) → place_in old v.number ≡ NoPlace → SetsAlloc old.places new.places v p → new.slots ≡ old.slots → new.edits ≡ old.edits →
          SameMachine old new →
          Ready tail ops (record far { here = g.there; claimed = g.claimed2; done = and_one far.done k }) ends_block u new
      use_new new nowhere z slots edits machine =
          let z2 : SetsAlloc old.places new.places v (g.there k) = subst (SetsAlloc old.places new.places v) (sym g.at_k) z in
          let w : IsWhole new = arrive_whole new p refl (λ e. real (g.at_k ∙ e)) nowhere z slots in
          let none : location_at old num ≡ None = ap opt (ap (place_in old) (sym nv) ∙ nowhere) in
          let dead : far.lived num ≡ false = ⊎_elim
          (λ (a : far.lived num ≡ true). let o = g.ready.located.placed.lives num a none in let d = g.ready.located.placed.defined num o in
          absurd (unmade d.0 d.1 d.2 d.3))
          (λ (a : far.lived num ≡ false). a) (cases_Bool (far.lived num)) in
          let c1 : Claims Known (after_part insts (listed old.edits) placesf i n) (Need far.lived far.out far.made_at (location_at new) (slots_at old)) E =
          need_new Known E (after_part insts (listed old.edits) placesf i n) far.lived far.out far.made_at (location_at old) (location_at new) (slots_at old) num
          dead
          (λ x ne. ap opt (z.others x (λ e. ne (e ∙ nv)))) g.ready.owes.claims in
          let c2 : Claims Known (after_part insts (listed old.edits) placesf i n) (Need far.lived far.out far.made_at (location_at new) (slots_at new)) E =
          subst (λ (s : SpillSlotsValue). Claims Known (after_part insts (listed old.edits) placesf i n)
          (Need far.lived far.out far.made_at (location_at new) (λ x. opt (slot_name s x))) E) (sym slots) c1 in
          record {
            located = use_arrives (what_of ops) (record far { here = g.there; claimed = g.claimed2 }) (and_one far.done k) old new k v placed_use (sym nv)
                real nowhere
                unmade z2 slots w g.ready.located;
            owes = record {
              later = subst (λ es. AllFrom (after i) (listed es)) (sym edits) g.ready.owes.later;
              claims = subst (λ es. Claims Known (after_part insts (listed es) placesf i n)
                  (Need far.lived far.out far.made_at (location_at new) (slots_at new)) E) (sym edits) c2;
            };
            nowhere_needed = λ a. subst (NoneNeeded tail) (sym edits) (g.ready.nowhere_needed a);
            held = g.ready.held;
            scratch_reserve = record {
              idle = λ c b is. (let y = g.ready.scratch_reserve.idle c b (scratch_back c u old new b machine is) in record {
                no_allocs = λ x ex. elim (cases_eq x v.number) [
                  | inl a ↦ y.unclaimed k g.claims (g.at_k ∙ sym z.here ∙ ap (place_in new) (sym a) ∙ ex)
                  | inr a ↦ y.no_allocs x (sym (z.others x a) ∙ ex)
                ];
                clear = y.clear;
                unclaimed = y.unclaimed;
              });
              own = λ c b d. ap (λ l. has_register l b) machine.allocatable ∙ g.ready.scratch_reserve.own c b d;
              early = g.ready.scratch_reserve.early;
              late = g.ready.scratch_reserve.late;
            };
            fit = fit_same old new machine g.ready.fit;
            clobbers = g.ready.clobbers;
            within = g.ready.within;
            small = g.ready.small;
          }

      -- once a use's vreg has its location, the record holds with its operand among the placed ones
      pub use_step : (new : StateValue) → LocatesUse v p old new
          → Ready tail ops (record far { here = g.there; claimed = g.claimed2; done = and_one far.done k }) ends_block u new
      use_step new (stays there en) = subst (Ready tail ops (record far { here = g.there; claimed = g.claimed2; done = and_one far.done k }) ends_block u) (sym en)
          (record {
            located = use_stays (what_of ops) (record far { here = g.there; claimed = g.claimed2 }) (and_one far.done k) old k placed_use
                (λ e. there (ap (place_in old) nv ∙ e)) g.ready.located;
            owes = g.ready.owes;
            nowhere_needed = g.ready.nowhere_needed;
            held = g.ready.held;
            scratch_reserve = g.ready.scratch_reserve;
            fit = g.ready.fit;
            clobbers = g.ready.clobbers;
            within = g.ready.within;
            small = g.ready.small;
          })
      use_step new (located nowhere z slots edits machine order) = use_new new nowhere z slots edits machine

    -- a definition
    pub def_step : (w : InstRegs) (new : StateValue) → is_def (op_at ops k).kind ≡ true → FreesAlloc (after i) (op_at ops k).vreg ends_block p u w old new →
        Ready tail ops (record far {
          here = g.there;
          claimed = g.claimed2;
          done = and_one far.done k;
          out = and_one far.out (op_at ops k).vreg.number;
          made_at = made_one far.made_at (g.there k) (op_at ops k).vreg.number;
        }) ends_block w new
    def_step w new def d =
        frees_alloc_step tail ops (record far { here = g.there; claimed = g.claimed2 }) (and_one far.done k)
        (and_one far.out (op_at ops k).vreg.number) (made_one far.made_at (g.there k) (op_at ops k).vreg.number) ends_block k
        (record {
          makes = makes_one ops g.there far.out far.made_at k;
          places = places_one far.done k;
          once = once;
          claims = g.claims;
          is_def = def;
        }) u w old new
        (subst (λ q. FreesAlloc (after i) (op_at ops k).vreg ends_block q u w old new) (sym g.at_k) d) g.ready
