-- The places of debug locations: each is one where its label's vreg may be, and so they are as `run` guarantees them.
use Rattle.std.proofs.Common.{if◌then◌else◌, ℕ, ◌≡◌, ◌≢◌, ◌+◌, ◌<◌, ◌⊎◌, false, inl, inr, List, length, map, nat_eq, refl, sym, ap, ◌∙◌, subst, arith, slice_index}
use Rattle.std.proofs.Common.{slice_index_or}
use Rattle.std.specs.Prelude.{All, None, Option, Some}
use Rattle.std.proofs.lemmas.Bool.{ne_eqb, and_right}
use Rattle.std.proofs.lemmas.List.{get_or_default}
use Rattle.std.proofs.lemmas.List.Elements.{All-map, All-weaker}
use Rattle.std.proofs.lemmas.List.Sorted.{All-permutation}
use Rattle.regalloc2_names.specs.Operand.{OperandValue, is_fixed, is_fixed_nonallocatable}
use Rattle.regalloc2_names.specs.Place.{Place, NoPlace, InRegister, InSlot, is_no_place}
use Rattle.regalloc2_names.specs.Register.{VirtualRegister}
use Rattle.regalloc2_function.specs.FunctionValue.{FunctionValue, IsLimited, Label, inst_at, op_at}
use Rattle.regalloc2_function.specs.Machine.{MachineValue}
use Rattle.regalloc2_function.specs.OutputValue.{DebugLocation, OutputValue, allocs_of, place_at}
use Rattle.regalloc2_semantics.specs.Runs.{IsDefinitelyAssigned, Location}
use Rattle.regalloc2_semantics.specs.Debug.{ShowsValue, AreDebugLocations}
use Rattle.regalloc2_semantics.specs.Live.{NamesAt, PassesAt}
use Rattle.regalloc2_semantics.specs.Places.{IsValidPlace, Owner, OfVReg}
use Rattle.regalloc2_function.specs.WellFormed.{IsWellFormed}
use Rattle.regalloc2_carry.proofs.SingleDef.{Made, made_small}
use Rattle.regalloc2_fastalloc_state.specs.StateParts.{IsSlotOrNone, slot_name}
use Rattle.regalloc2_analysis.specs.declared.live_ranges.InstOperand.{InstOperand}
use Rattle.regalloc2_analysis.specs.declared.live_ranges.KeptLabel.{KeptLabel}
use Rattle.regalloc2_analysis.specs.declared.live_ranges.LiveRange.{LiveRange}
use Rattle.regalloc2_analysis.specs.LiveRanges.LiveRanges.{IsKeptRange, IsShownBy}
use Rattle.regalloc2_analysis.proofs.LiveRangesLemmas.KeptLabels.{IsKeptLabelOf, kept_from, located_labels}
use Rattle.regalloc2_analysis.proofs.LiveRangesLemmas.FirstAndLastPoints.{shown_within}
use Rattle.regalloc2_fastalloc_proofs.specs.Debug.ShownPlace.{shown_place}
use Rattle.regalloc2_fastalloc_proofs.specs.Safety.{MayBeLocatedAt}
use Rattle.regalloc2_fastalloc_proofs.specs.InstSteps.{StateValue}
use Rattle.regalloc2_fastalloc_proofs.specs.BlockSteps.{offset_of}
use Rattle.regalloc2_fastalloc_proofs.proofs.Safety.OutputOfWalk.{IsOutputOfWalk, IsOfLabel, place_is, proper_place, slots_below}
use Rattle.regalloc2_fastalloc_proofs.proofs.Slots.ApartSlotsAreOwned.{OwnsSlots}
use Rattle.regalloc2_fastalloc_proofs.proofs.Safety.InstsKeepSafe.{WalkKept, place_of}
use Rattle.regalloc2_fastalloc.specs.DebugLocations.{AreLocated, location_shown, operand_place, place_by, place_shown}
use Rattle.regalloc2_fastalloc.proofs.DebugLocationsFound.{pointed_made}

-- a vreg that shows the value of v, is an operand of it; an argument alone is in a slot
module _ (env : MachineValue) (f : FunctionValue) (limited : IsLimited f) (ok : IsWellFormed env f) (May : ℕ → Type 0) (t : StateValue) (offsets : List ℕ)
    (allocs : List Place) (at : (i : ℕ) → i < length f.insts → slice_index offsets i ≡ offset_of f i)
    (kept : WalkKept env (Made f) f May allocs 0 0 allocs t) (handed : (v : VirtualRegister) (l : Location) → PassesAt f v l →
    slot_name t.slots v.number ≢ NoPlace) where
  -- an operand of one that is made is allocated
  allocated : (o : OperandValue) → o.vreg.number < f.num_vregs → is_fixed_nonallocatable o ≡ false
  allocated o small = and_right (is_fixed o.constraint) (nat_eq o.vreg.number 1073741823)
      (ne_eqb o.vreg.number 1073741823 (let few = limited.vregs in omega (arith, small, few)))

  operand_stands : (v : VirtualRegister) → Made f v → (o : InstOperand) → o.inst < length f.insts → o.index < length (inst_at f o.inst).operands →
      (op_at (inst_at f o.inst).operands o.index).vreg ≡ v → MayBeLocatedAt env t.slots v (operand_place offsets allocs o)
  operand_stands v made o lt less is =
      let ops : List OperandValue = (inst_at f o.inst).operands in
      let same : (op_at ops o.index).vreg ≡ v = ap (λ (x : OperandValue). x.vreg) (get_or_default ops o.index _ _ less) ∙ is in
      let small : (op_at ops o.index).vreg.number < f.num_vregs = (let s = made_small f ok.defined_once v made in
      let e = ap (λ (w : VirtualRegister). w.number) same in omega (arith, s, e)) in
      let there : MayBeLocatedAt env t.slots (op_at ops o.index).vreg
      (place_of f allocs o.inst o.index) = (kept.good o.inst o.index (omega arith) lt less).good.place (allocated (op_at ops o.index) small) in
      subst (λ (p : Place). MayBeLocatedAt env t.slots v p) (ap (λ (n : ℕ). slice_index_or allocs (n + o.index) NoPlace) (sym (at o.inst lt)))
      (subst (λ (w : VirtualRegister). MayBeLocatedAt env t.slots w (place_of f allocs o.inst o.index)) same there)

  shown_stands : (v : VirtualRegister) → Made f v → (p : Place) → slot_name t.slots v.number ≡ p → (by : Option InstOperand) → IsShownBy f v by →
      MayBeLocatedAt env t.slots v (if is_no_place p then place_by offsets allocs by else p)
  shown_stands v made NoPlace is None shown = (let h = shown_within f v shown in absurd (handed v h.0 h.1 is))
  shown_stands v made NoPlace is (Some o) shown = (let h = shown_within f v shown in operand_stands v made o h.0 h.1 h.2)
  shown_stands v made (InRegister r) is by shown = absurd (subst (IsSlotOrNone t.slots.count) is (kept.safe.slots v.number))
  shown_stands v made (InSlot n) is by shown = is

  -- the place by which a label's live range is shown is one where its vreg may be
  pub range_stands : (l : Label) (k : KeptLabel) → IsKeptRange f l k.range → MayBeLocatedAt env t.slots l.vreg (place_shown t.slots offsets allocs k.range)
  range_stands l k range =
      shown_stands l.vreg (pointed_made f l.vreg range.kept.0) (slot_name t.slots k.range.vreg.number)
      (ap (λ (v : VirtualRegister). slot_name t.slots v.number) (sym range.vreg)) k.range.by range.by

  -- each debug location is a label's, and is where its vreg may
  pub locations_stand : (ds : List DebugLocation) → AreLocated f t.slots offsets allocs ds → All (IsOfLabel f env (Made f) t.slots) ds
  locations_stand ds a =
      All-permutation (IsOfLabel f env (Made f) t.slots) (map (location_shown t.slots offsets allocs) a.kept) ds a.same
      (All-map (IsOfLabel f env (Made f) t.slots) (location_shown t.slots offsets allocs) a.kept
      (All-weaker (IsKeptLabelOf f f.labels) (λ (k : KeptLabel). IsOfLabel f env (Made f) t.slots (location_shown t.slots offsets allocs k)) each a.kept
      (kept_from a.are)))
    where
      each : (k : KeptLabel) → IsKeptLabelOf f f.labels k → IsOfLabel f env (Made f) t.slots (location_shown t.slots offsets allocs k)
      each k (j, l, lt, there, (is, range)) = (j, l, lt, there, (sym is, range.kept, pointed_made f l.vreg range.kept.0, range_stands l k range))

-- a place of a vreg: an operand that names it is there, or it is the slot that it owns
abbrev IsPlaceOf : FunctionValue → OutputValue → (ℕ → Owner) → VirtualRegister → Place → Type 0
IsPlaceOf f out owner v p = ((i k : ℕ) × NamesAt f v i k × (place_at (allocs_of out i) k ≡ p)) ⊎ ((n : ℕ) × (p ≡ InSlot n) × (owner n ≡ OfVReg v))

-- there is a debug location for each label that is kept; it names a place of its vreg, which holds the vreg's value
abbrev pub ShowsLabels : FunctionValue → MachineValue → OutputValue → (ℕ → Owner) → Type 0
ShowsLabels f env out owner = AreDebugLocations f (λ l d. IsValidPlace env out l.vreg.class d.place × IsPlaceOf f out owner l.vreg d.place
    × (IsDefinitelyAssigned f → ShowsValue f out l.vreg d.place)) out

module _ (env : MachineValue) (f : FunctionValue) (limited : IsLimited f) (ok : IsWellFormed env f) (May : ℕ → Type 0) (t : StateValue) (out : OutputValue)
    (m : IsOutputOfWalk f env (Made f) May t out)
    (handed : (v : VirtualRegister) (l : Location) → PassesAt f v l → slot_name t.slots v.number ≢ NoPlace) (owns : OwnsSlots (Made f) f t.slots out) where
  -- the place that shows v is one of v's
  place_is_own : (v : VirtualRegister) → Made f v → (p : Place) → slot_name t.slots v.number ≡ p → (by : Option InstOperand) → IsShownBy f v by →
      IsPlaceOf f out owns.owned.owner v (if is_no_place p then place_by out.offsets out.allocs by else p)
  place_is_own v made NoPlace is None shown = (let h = shown_within f v shown in absurd (handed v h.0 h.1 is))
  place_is_own v made NoPlace is (Some o) shown = (
      let h = shown_within f v shown in
      inl (
        o.inst,
        o.index,
        h,
        place_is f env (Made f) May t out m o.inst h.0 o.index h.1
            ∙ ap (λ (n : ℕ). slice_index_or out.allocs (n + o.index) NoPlace) (sym (m.offsets o.inst h.0)),
      ))
  place_is_own v made (InRegister r) is by shown = absurd (subst (IsSlotOrNone t.slots.count) is (m.kept.safe.slots v.number))
  place_is_own v made (InSlot n) is by shown =
      inr (n, refl, owns.vregs v n made is)

  -- an operand's place is the same in the list of all places and in the list of its instruction's places
  place_is_shown : (v : VirtualRegister) (p : Place) (by : Option InstOperand) → IsShownBy f v by →
      shown_place out p by ≡ (if is_no_place p then place_by out.offsets out.allocs by else p)
  place_is_shown v NoPlace None shown = refl
  place_is_shown v NoPlace (Some o) shown = (
      let h = shown_within f v shown in
      place_is f env (Made f) May t out m o.inst h.0 o.index h.1 ∙ ap (λ (n : ℕ). slice_index_or out.allocs (n + o.index) NoPlace) (sym (m.offsets o.inst h.0)))
  place_is_shown v (InRegister r) by shown = refl
  place_is_shown v (InSlot n) by shown = refl

  -- debug locations as `run` guarantees them
  pub shows_labels : (IsDefinitelyAssigned f → (l : Label) (r : LiveRange) → IsKeptRange f l r →
      ShowsValue f out l.vreg (shown_place out (slot_name t.slots r.vreg.number) r.by)) → AreLocated f t.slots out.offsets out.allocs out.debug_locations →
      ShowsLabels f env out owns.owned.owner
  shows_labels shows a = record {
    listed = map (location_shown t.slots out.offsets out.allocs) a.kept;
    kept = located_labels (λ (l : Label) (d : DebugLocation). IsValidPlace env out l.vreg.class d.place × IsPlaceOf f out owns.owned.owner l.vreg d.place
        × (IsDefinitelyAssigned f → ShowsValue f out l.vreg d.place)) (λ (k : KeptLabel). place_shown t.slots out.offsets out.allocs k.range) each a.are;
    same = a.same;
    rising = a.rising;
    stable = a.stable;
  }
    where
      each : (l : Label) (k : KeptLabel) → k.label ≡ l.label → IsKeptRange f l k.range →
          (let p : Place = place_shown t.slots out.offsets out.allocs k.range in IsValidPlace env out l.vreg.class p
          × IsPlaceOf f out owns.owned.owner l.vreg p × (IsDefinitelyAssigned f → ShowsValue f out l.vreg p))
      each l k is range = (
        proper_place env out t.slots l.vreg (place_shown t.slots out.offsets out.allocs k.range) (slots_below f env (Made f) May t out m)
            (range_stands env f limited ok May t out.offsets out.allocs m.offsets m.kept handed l k range),
        place_is_own l.vreg (pointed_made f l.vreg range.kept.0) (slot_name t.slots k.range.vreg.number)
            (ap (λ (v : VirtualRegister). slot_name t.slots v.number) (sym range.vreg)) k.range.by range.by,
        λ written. subst (ShowsValue f out l.vreg) (place_is_shown l.vreg (slot_name t.slots k.range.vreg.number) k.range.by range.by)
            (shows written l k.range range),
      )
