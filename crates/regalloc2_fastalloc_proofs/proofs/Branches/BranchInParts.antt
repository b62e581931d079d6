-- What a branch carries: with its own moves, the reloads of its arguments, and their moves to the parameters.
use Rattle.std.proofs.Common.{ℕ, ◌≡◌, inl, inr, Bool, true, false, List, [], nat_eq, refl, sym, ap, subst, eq-eqb}
use Rattle.std.specs.Prelude.{Option, Some, not, ◌&&◌}
use Rattle.std.proofs.lemmas.Bool.{and_parts, and_right, and_from, not-true}
use Rattle.regalloc2_names.specs.Register.{Register, VirtualRegister}
use Rattle.regalloc2_names.specs.Place.{Place, InRegister, before}
use Rattle.regalloc2_function.specs.FunctionValue.{FunctionValue, InstValue, inst_at}
use Rattle.regalloc2_carry.specs.Listing.{Item, exec_item}
use Rattle.regalloc2_carry.specs.Carry.{Carries}
use Rattle.regalloc2_carry.specs.BlockByPoints.{at_point, walked, before_part, listed}
use Rattle.regalloc2_carry.specs.OperandsPlaced.{Need, located, in_slot, made}
use Rattle.regalloc2_carry.proofs.CarryRules.{carries_weaken}
use Rattle.regalloc2_carry.proofs.MoveInFront.{walked-more}
use Rattle.regalloc2_carry.proofs.BlockBackward.{Relied}
use Rattle.regalloc2_fastalloc_state.specs.declared.inst_regs.InstRegs.{InstRegs}
use Rattle.regalloc2_fastalloc_proofs.specs.InstSteps.{StateValue}
use Rattle.regalloc2_fastalloc_proofs.specs.BranchSteps.{ClassMove, GathersMoves}
use Rattle.regalloc2_fastalloc_proofs.proofs.Operands.RecordOverState.{location_at, slots_at}
use Rattle.regalloc2_fastalloc_proofs.proofs.Inst.OneInstCarries.{IsBetweenInsts}
use Rattle.regalloc2_fastalloc_proofs.proofs.BlockBegin.ReloadAtBegin.{SpareHere}
use Rattle.regalloc2_fastalloc_proofs.proofs.BlockBegin.CarriesFromSlot.{at_location, at_location-true, at_location-same, at_location-none}
use Rattle.regalloc2_fastalloc_proofs.proofs.Branches.ArgsSpilled.{Stage}
use Rattle.regalloc2_fastalloc_proofs.proofs.Branches.EdgeArgsGathered.{MovesByClass, arguments_gathered}
use Rattle.regalloc2_fastalloc_proofs.proofs.Operands.BlockTail.{tail_of}

-- a slot that is made later is needed, if the block doesn't write its vreg
abbrev pub is_kept : Bool → ℕ → Option Place → Place → ℕ → Bool
is_kept block v F p x = nat_eq x v && (not block && at_location F p)

kept-clear : (block : Bool) (v : ℕ) (F : Option Place) → ((r : Register) → F ≡ Some (InRegister r) → ⊥) → (r : Register) (x : ℕ) →
    is_kept block v F (InRegister r) x ≡ false
kept-clear block v F only r x = and_right (nat_eq x v) (not block && at_location F (InRegister r))
    (and_right (not block) (at_location F (InRegister r)) (at_location-none F (InRegister r) (only r)))

module _ (insts : ℕ → InstValue) (placesf : ℕ → List Place) (last : ℕ) (v : VirtualRegister) (block : Bool) (F : Option Place)
    (only : (r : Register) → F ≡ Some (InRegister r) → ⊥) (E : Place → Type 0) where
  -- the branch itself in the listing, without its moves
  abbrev pub branch_item : Item
  branch_item = exec_item (insts last) (placesf last)

  -- what is listed from the last instruction on
  abbrev pub from_last : StateValue → List Item
  from_last t = walked insts (at_point (listed t.edits)) placesf last 1

  -- the places that must hold v, with the tables t
  abbrev pub On : StateValue → Place → Type 0
  On t = Relied false block (location_at t v.number) (slots_at t v.number) F

  abbrev StageHere : InstRegs → StateValue → Type 0
  StageHere u t = Stage (tail_of (λ w. w ≡ v) insts placesf last 0 (λ w. E)) branch_item (is_kept block v.number F) (kept-clear block v.number F only) u t

  begin_stage : (u : InstRegs) (t : StateValue) → IsBetweenInsts last t → SpareHere u t → Carries v (from_last t) (On t) E → StageHere u t
  begin_stage u t b scratch_reserve c =
      let L : List Item = before_part insts (listed t.edits) placesf last 0 branch_item in
      let here : Carries v L (On t) E = subst (λ l. Carries v l (On t) E) (walked-more insts (listed t.edits) placesf last 0) c in
      record {
        whole = b.whole;
        later = b.later;
        brings = λ w same. subst (λ (x : VirtualRegister). Carries x L (Need (λ y. true) (λ y. false) (is_kept block v.number F) (location_at t) (slots_at t)
            x.number) E) (sym same)
            (carries_weaken v L (On t) (Need (λ y. true) (λ y. false) (is_kept block v.number F) (location_at t) (slots_at t) v.number) E E
            (λ p h. elim h.1 [
              | inl at ↦ located refl at
              | inr (inl at) ↦ in_slot refl at
              | inr (inr at) ↦ made (and_from (nat_eq v.number v.number) (not block && at_location F p) (eq-eqb v.number v.number refl)
                  (and_from (not block) (at_location F p) (ap not at.0) (at_location-same F p at.1)))
            ])
            (λ p h. h) here);
        fit = b.fit;
        scratch_reserve = scratch_reserve;
        gone = λ x e. absurd cc;
      }

  end_stage : (u : InstRegs) (t : StateValue) → StageHere u t → Carries v (from_last t) (On t) E
  end_stage u t s =
      let L : List Item = before_part insts (listed t.edits) placesf last 0 branch_item in
      subst (λ l. Carries v l (On t) E) (sym (walked-more insts (listed t.edits) placesf last 0))
      (carries_weaken v L (Need (λ y. true) (λ y. false) (is_kept block v.number F) (location_at t) (slots_at t) v.number) (On t) E E
      (λ p h. elim h [
        | located l at ↦ (refl, inl at)
        | in_slot o at ↦ (refl, inr (inl at))
        | made x ↦ (let y = and_parts (nat_eq v.number v.number) (not block && at_location F p) x in let z = and_parts (not block) (at_location F p) y.1 in
            (refl, inr (inr (not-true block z.0, at_location-true F p z.1))))
      ])
      (λ p h. h) (s.brings v refl))

  -- all arguments are spilled
  pub carries_after_spills : {f : FunctionValue} {b : ℕ} {t u : InstRegs} {old new : StateValue} {k : ℕ} {given : List ClassMove} →
      GathersMoves f b (before last) t old k u new given → IsBetweenInsts last old → SpareHere t old → Carries v (from_last old) (On old) E →
      Carries v (from_last new) (On new) E
  carries_after_spills {f} {b} {t} {u} {old} {new} {k} {given} gathers between scratch_reserve c =
      let d = arguments_gathered (tail_of (λ w. w ≡ v) insts placesf last 0 (λ w. E)) branch_item (is_kept block v.number F) (kept-clear block v.number F only) f b t old
      (begin_stage t old between scratch_reserve c) k u new given gathers in
      end_stage u new d.stage

-- what spilling the arguments does to the tables
abbrev pub Parted : FunctionValue → ℕ → ℕ → ℕ → InstRegs → InstRegs → StateValue → StateValue → List ClassMove → Type 0
Parted f b last k t u old new given = MovesByClass (tail_of (λ v. ⊥) (inst_at f) (λ j. []) last 0 (λ v p. ⊥)) (exec_item (inst_at f last) []) (λ p x. false)
    (λ r x. refl)
    f b k t u old new given

-- once the arguments of k edges are gathered, each has a location, and the gathered moves go from their slots to the
-- parameters' slots
pub branch_in_parts : (f : FunctionValue) (b last : ℕ) (t u : InstRegs) (old new : StateValue) (k : ℕ) (given : List ClassMove) →
    GathersMoves f b (before last) t old k u new given → IsBetweenInsts last old → SpareHere t old → Parted f b last k t u old new given
branch_in_parts f b last t u old new k given gathers between scratch_reserve =
    arguments_gathered (tail_of (λ v. ⊥) (inst_at f) (λ j. []) last 0 (λ v p. ⊥)) (exec_item (inst_at f last) []) (λ p x. false) (λ r x. refl) f b t old
    (record {
      whole = between.whole;
      later = between.later;
      brings = λ v known. absurd known;
      fit = between.fit;
      scratch_reserve = scratch_reserve;
      gone = λ x e. absurd cc;
    }) k u new given gathers
