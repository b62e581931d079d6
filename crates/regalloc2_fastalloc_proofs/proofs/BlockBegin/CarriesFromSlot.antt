-- The start of a block, for one vreg: its listing carries the vreg from its slot at the end of the whole walk, unless
-- the block writes the vreg.
use Rattle.std.proofs.Common.{ℕ, suc, ◌≡◌, ◌⊎◌, inl, inr, Bool, true, false, List, [], ◌∷◌, ◌++◌, nat_eq, refl, sym, ap, ◌∙◌, subst, eq-eqb}
use Rattle.std.specs.Prelude.{Option, None, Some, ◌&&◌, is_some}
use Rattle.std.proofs.lemmas.Bool.{and_right, and_from, and_parts}
use Rattle.regalloc2_names.specs.Register.{Register, VirtualRegister}
use Rattle.regalloc2_names.specs.Place.{Place, NoPlace, InRegister, InSlot, is_place, before}
use Rattle.regalloc2_function.specs.FunctionValue.{InstValue}
use Rattle.regalloc2_function.specs.OutputValue.{MoveValue}
use Rattle.regalloc2_carry.specs.Listing.{Item, exec_item}
use Rattle.regalloc2_carry.specs.Listing.Item.{Move}
use Rattle.regalloc2_carry.specs.Carry.{Carries}
use Rattle.regalloc2_carry.specs.BlockByPoints.{at_point, walked, before_part, listed}
use Rattle.regalloc2_carry.specs.OperandsPlaced.{Need, located, in_slot, made}
use Rattle.regalloc2_semantics.proofs.Cells.{is_place-true, is_place-same, is_place-other}
use Rattle.regalloc2_carry.proofs.CarryRules.{carries_weaken, carries_move}
use Rattle.regalloc2_carry.proofs.MoveInFront.{walked-more, before_part-push}
use Rattle.regalloc2_carry.proofs.PushedMoves.{listed-push}
use Rattle.regalloc2_carry.proofs.BlockBackward.{Relied}
use Rattle.regalloc2_fastalloc_proofs.specs.InstSteps.{StateValue}
use Rattle.regalloc2_fastalloc_proofs.specs.BlockStart.{ReloadsAtBegin}
use Rattle.regalloc2_fastalloc_proofs.proofs.Safety.StepsKeepState.{place_in, slot_in}
use Rattle.regalloc2_fastalloc_proofs.proofs.Operands.RecordOverState.{opt, location_at, slots_at}
use Rattle.regalloc2_fastalloc_proofs.proofs.Inst.AcrossInst.{lives_in}
use Rattle.regalloc2_fastalloc_proofs.proofs.Inst.OneInstCarries.{IsBetweenInsts}
use Rattle.regalloc2_fastalloc_proofs.proofs.Moves.StepsAppendEdits.{AppendsEdits, none_pushed, one_pushed}
use Rattle.regalloc2_fastalloc_proofs.proofs.BlockBegin.ReloadAtBegin.{IsReload, Begun, block_start_places, reloads_at_begin_carried}

-- whether an option is the given place
abbrev pub at_location : Option Place → Place → Bool
at_location None p = false
at_location (Some q) p = is_place q p

-- an option that passes the test for a place is that place
pub at_location-true : (x : Option Place) (p : Place) → at_location x p ≡ true → x ≡ Some p
at_location-true None p h = absurd cc
at_location-true (Some q) p h = ap Some (is_place-true q p h)

-- an option that is a place passes the test for that place
pub at_location-same : (x : Option Place) (p : Place) → x ≡ Some p → at_location x p ≡ true
at_location-same None p h = absurd cc
at_location-same (Some q) p h = (let same : q ≡ p = cc in subst (λ y. is_place q y ≡ true) same (is_place-same q))

-- an option that isn't a place fails the test for that place
pub at_location-none : (x : Option Place) (p : Place) → (x ≡ Some p → ⊥) → at_location x p ≡ false
at_location-none None p h = refl
at_location-none (Some q) p h = is_place-other q p (λ e. h (ap Some e))

module _ (insts : ℕ → InstValue) (placesf : ℕ → List Place) (i n : ℕ) (v : VirtualRegister) (E : Place → Type 0) where
  -- the listing from the block's first instruction on
  abbrev pub from_first : StateValue → List Item
  from_first t = walked insts (at_point (listed t.edits)) placesf i (suc n)

  -- reloads in front do nothing to what is carried from nowhere
  reloaded : (old new : List (ℕ × MoveValue)) → AppendsEdits (IsReload (before i)) old new →
      Carries v (walked insts (at_point (listed old)) placesf i (suc n)) (λ p. ⊥) E →
      Carries v (walked insts (at_point (listed new)) placesf i (suc n)) (λ p. ⊥) E
  reloaded old new none_pushed c = c
  reloaded old new (one_pushed es e more is) c =
      let item : Item = exec_item (insts i) (placesf i) in
      let rest : Carries v (before_part insts (listed es) placesf i n item) (λ p. ⊥) E =
      subst (λ l. Carries v l (λ p. ⊥) E) (walked-more insts (listed es) placesf i n) (reloaded old es more c) in
      let moved : Carries v (Move e.1 ∷ before_part insts (listed es) placesf i n item) (λ p. ⊥) E =
      carries_move v e.1 (before_part insts (listed es) placesf i n item) (λ p. ⊥) (λ p. ⊥) E
      (λ none. (let x : NoPlace ≡ InRegister is.1.0 = sym none ∙ is.1.1 in cc)) (λ x. x) (λ p ne x. x) rest in
      let in_front : before_part insts (listed (es ++ e ∷ [])) placesf i n item ≡ Move e.1 ∷ before_part insts (listed es) placesf i n item =
      ap (λ l. before_part insts l placesf i n item) (listed-push es e) ∙ ap (λ q. before_part insts ((q, e.1) ∷ listed es) placesf i n item) is.0
      ∙ before_part-push insts e.1 (listed es) placesf i n item in
      subst (λ l. Carries v l (λ p. ⊥) E) (sym (walked-more insts (listed (es ++ e ∷ [])) placesf i n ∙ in_front)) moved

  module _ (params : List VirtualRegister) (old new : StateValue) (begins : ReloadsAtBegin (before i) params old new) (between : IsBetweenInsts i old) (block : Bool)
      (F : Option Place) (slot : (r : Register) → F ≡ Some (InRegister r) → ⊥)
      (stays : (p : Place) → slots_at new v.number ≡ Some p → F ≡ Some p) where
    -- if the block doesn't write v
    unwritten : Carries v (from_first old) (Relied false false (location_at old v.number) (slots_at old v.number) F) E →
        Carries v (from_first new) (λ p. F ≡ Some p) E
    unwritten c =
        let X : Place → ℕ → Bool = λ p x. nat_eq x v.number && at_location F p in
        let b : Begun i params old new = block_start_places i params old new begins between in
        carries_weaken v (from_first new) (λ p. Need (lives_in new) (λ x. false) X (location_at new) (slots_at new) v.number p) (λ p. F ≡ Some p) E E
        (λ p h. elim h [
          | located l at ↦ stays p (by_place p (b.in_slot_or_nowhere v.number) at)
          | in_slot o at ↦ stays p at
          | made x ↦ at_location-true F p ((and_parts (nat_eq v.number v.number) (at_location F p) x).1)
        ])
        (λ p h. h)
        (reloads_at_begin_carried (λ w. w ≡ v) insts placesf i n (λ w. E) (λ x. false) X params old new
        (λ r x. and_right (nat_eq x v.number) (at_location F (InRegister r)) (at_location-none F (InRegister r) (slot r))) (λ x e. absurd cc) begins between
        (λ w same. subst (λ (u : VirtualRegister). Carries u (from_first old) (Need (lives_in old) (λ x. false) X (location_at old) (slots_at old) u.number) E)
        (sym same)
        (carries_weaken v (from_first old) (Relied false false (location_at old v.number) (slots_at old v.number) F)
        (λ p. Need (lives_in old) (λ x. false) X (location_at old) (slots_at old) v.number p) E E
        (λ p h. elim h.1 [
          | inl at ↦ located (ap is_some at) at
          | inr (inl at) ↦ in_slot refl at
          | inr (inr at) ↦ made (and_from (nat_eq v.number v.number) (at_location F p) (eq-eqb v.number v.number refl) (at_location-same F p at.1))
        ])
        (λ p h. h) c)) v refl)
      where
        by_place : (p : Place) → (place_in new v.number ≡ NoPlace) ⊎ ((k : ℕ) × (place_in new v.number ≡ InSlot k) × (slot_in new v.number ≡ InSlot k)) →
            location_at new v.number ≡ Some p → slots_at new v.number ≡ Some p
        by_place p (inl none) at = (let x : None ≡ Some p = ap opt (sym none) ∙ at in absurd cc)
        by_place p (inr k) at = ap opt k.2 ∙ ap opt (sym k.1) ∙ at

    -- with the block's start in front, its listing carries v from its final slot, or from nowhere if the block writes
    -- it
    pub entered_carried : Carries v (from_first old) (Relied block block (location_at old v.number) (slots_at old v.number) F) E →
        Carries v (from_first new) (λ p. (block ≡ false) × (F ≡ Some p)) E
    entered_carried = by_test block refl
      where
        by_test : (b : Bool) → block ≡ b → Carries v (from_first old) (Relied block block (location_at old v.number) (slots_at old v.number) F) E →
            Carries v (from_first new) (λ p. (block ≡ false) × (F ≡ Some p)) E
        by_test true is c =
            carries_weaken v (from_first new) (λ p. ⊥) (λ p. (block ≡ false) × (F ≡ Some p)) E E (λ p h. absurd h) (λ p h. h)
            (reloaded old.edits new.edits (block_start_places i params old new begins between).leads.pushes
            (carries_weaken v (from_first old) (Relied block block (location_at old v.number) (slots_at old v.number) F) (λ p. ⊥) E E
            (λ p h. (let x : true ≡ false = sym is ∙ h.0 in absurd cc)) (λ p h. h) c))
        by_test false is c =
            carries_weaken v (from_first new) (λ p. F ≡ Some p) (λ p. (block ≡ false) × (F ≡ Some p)) E E (λ p h. (is, h)) (λ p h. h)
            (unwritten (subst (λ x. Carries v (from_first old) (Relied x x (location_at old v.number) (slots_at old v.number) F) E) is c))
