-- The record that is kept while the operands of an instruction are placed, over the tables.
use Rattle.std.proofs.Common.{ℕ, ◌≡◌, ◌≢◌, ◌<◌, ◌≤◌, Bool, true, false, List, [], ◌∷◌, ◌++◌, refl, arith, sym, ap, ◌∙◌, subst, inl, inr, ◌⊎◌}
use Rattle.std.specs.Prelude.{Option, None, Some}
use Rattle.std.proofs.lemmas.Bool.{cases_eq}
use Rattle.regalloc2_names.specs.Register.{Register, VirtualRegister}
use Rattle.regalloc2_names.specs.Place.{Place, NoPlace, InRegister, InSlot, is_place, after}
use Rattle.regalloc2_function.specs.OutputValue.{MoveValue}
use Rattle.regalloc2_carry.specs.Listing.{Item}
use Rattle.regalloc2_carry.specs.Listing.Item.{Move}
use Rattle.regalloc2_carry.specs.BlockByPoints.{AllFrom, after_part, listed}
use Rattle.regalloc2_carry.specs.Instruction.{Claims}
use Rattle.regalloc2_carry.specs.OperandsPlaced.{What, Need, Progress, Placed, GoesToSlot}
use Rattle.regalloc2_carry.proofs.PushedMoves.{listed-push, after_part-more}
use Rattle.regalloc2_carry.proofs.RecordSteps.{step_slot, step_evict}
use Rattle.regalloc2_carry.proofs.NeedsAcrossMoves.{need_evict, need_slot}
use Rattle.regalloc2_fastalloc_state.specs.StateParts.{VRegAllocsValue, SpillSlotsValue, alloc_of, vreg_of_preg, slot_name, IsSlotOrNone, SetsAlloc}
use Rattle.regalloc2_fastalloc_state.specs.StateParts.{GetsSpillSlot}
use Rattle.regalloc2_fastalloc_proofs.specs.InstSteps.{StateValue, a_move}
use Rattle.regalloc2_fastalloc_proofs.specs.Safety.{IsWhole}
use Rattle.regalloc2_fastalloc_proofs.proofs.Safety.StepsKeepState.{place_in, slot_in, whole_tidy, away_holds, away_stands, given, given_own, whole_used}
use Rattle.regalloc2_fastalloc_proofs.proofs.Safety.StepsKeepState.{given_below, given_units, slot_no_register}
use Rattle.regalloc2_fastalloc_proofs.proofs.Operands.BlockTail.{BlockTail}
use Rattle.regalloc2_fastalloc_proofs.proofs.Slots.StepsKeepSlots.{Grown, changes_grow}
use Rattle.regalloc2_fastalloc_proofs.proofs.Changes.OneChange.{Anything, Changes}

-- a place as an option: `NoPlace` is none
abbrev pub opt : Place → Option Place
opt NoPlace = None
opt (InRegister r) = Some (InRegister r)
opt (InSlot k) = Some (InSlot k)

-- a place that isn't none is itself as an option
pub opt_some : (p : Place) → p ≢ NoPlace → opt p ≡ Some p
opt_some NoPlace h = absurd (h refl)
opt_some (InRegister r) h = refl
opt_some (InSlot k) h = refl

-- a place that is q as an option is q
pub opt_from : (p q : Place) → opt p ≡ Some q → p ≡ q
opt_from NoPlace q h = absurd cc
opt_from (InRegister r) q h = cc
opt_from (InSlot k) q h = cc

-- a place that is none as an option is no place
pub opt_none : (p : Place) → opt p ≡ None → p ≡ NoPlace
opt_none NoPlace h = refl
opt_none (InRegister r) h = absurd cc
opt_none (InSlot k) h = absurd cc

-- the place that an option holds isn't none
pub opt_real : (p q : Place) → opt p ≡ Some q → q ≢ NoPlace
opt_real NoPlace q h e = cc
opt_real (InRegister r) q h e = let x : Some (InRegister r) ≡ Some NoPlace = h ∙ ap Some e in cc
opt_real (InSlot k) q h e = let x : Some (InSlot k) ≡ Some NoPlace = h ∙ ap Some e in cc

-- the location of a number's vreg, and its slot
abbrev pub location_at : StateValue → ℕ → Option Place
location_at t n = opt (place_in t n)

-- the spill slot of the vreg of a number, as an option
abbrev pub slots_at : StateValue → ℕ → Option Place
slots_at t n = opt (slot_in t n)

-- a slot that is one below a count has a number below it
pub slot_below : (count : ℕ) (p : Place) (k : ℕ) → IsSlotOrNone count p → p ≡ InSlot k → k < count
slot_below count NoPlace k h e = absurd cc
slot_below count (InRegister q) k h e = absurd cc
slot_below count (InSlot j) k h e = let x : InSlot j ≡ InSlot k = e in let same : j ≡ k = cc in subst (λ m. m < count) same h

-- the tables with the operands that are allocated so far
pub record Located (what : ℕ → What) (far : Progress) (t : StateValue) : Type
    0 where
  pub whole : IsWhole t
  pub placed : Placed what far (location_at t) (slots_at t)
  pub below : (j k : ℕ) → far.claimed j ≡ true → far.here j ≡ InSlot k → k < t.slots.count
  pub unclobbered : (k : ℕ) → far.clobbered (InSlot k) ≡ false

-- the order in which registers were used doesn't matter
pub located_used : (what : ℕ → What) (far : Progress) (t : StateValue) (order : List (List Register)) → Located what far t →
    Located what far (record t { lrus = order })
located_used what far t order l = record { whole = whole_used t order l.whole; placed = l.placed; below = l.below; unclobbered = l.unclobbered }

-- a vreg moves from its register to its slot, which it had or which is made
pub record Shifts (old new : StateValue) (v : VirtualRegister) (r : Register) (s : Place) : Type 0 where
  pub real : s ≢ NoPlace
  pub number : ℕ
  pub is_slot : s ≡ InSlot number
  pub was : location_at old v.number ≡ Some (InRegister r)
  pub now : location_at new v.number ≡ Some s
  pub slot : slots_at new v.number ≡ Some s
  pub same : (x : ℕ) → (x ≡ v.number → ⊥) → location_at new x ≡ location_at old x
  pub only_vreg : (x : ℕ) → location_at old x ≡ Some (InRegister r) → x ≡ v.number
  pub empty : (x : ℕ) → place_in new x ≡ InRegister r → ⊥
  pub no_slot : (x : ℕ) (q : Register) → slots_at new x ≡ Some (InRegister q) → ⊥
  pub grows : (x : ℕ) (p : Place) → slots_at old x ≡ Some p → slots_at new x ≡ Some p
  pub fresh : (x : ℕ) (p : Place) → slots_at new x ≡ Some p → (slots_at old x ≡ Some p) ⊎ ((k : ℕ) × (p ≡ InSlot k) × (old.slots.count ≤ k))
  pub count : old.slots.count ≤ new.slots.count

-- existing slots stay when slots grow
pub grown_slots : (At : ℕ → Type 0) (old new : StateValue) → Grown At old new → (x : ℕ) (p : Place) → slots_at old x ≡ Some p → slots_at new x ≡ Some p
grown_slots At old new g x p e = ap opt (g.stay x (λ none. opt_real (slot_in old x) p e (sym (opt_from (slot_in old x) p e) ∙ none))) ∙ e

-- a vreg keeps its slot over any sequence of changes
pub changes_slots : {old new : StateValue} → Changes Anything old new → (x : ℕ) (p : Place) → slots_at old x ≡ Some p → slots_at new x ≡ Some p
changes_slots {old} {new} c = grown_slots (λ q. Unit {0}) old new (changes_grow (λ q. Unit {0}) c)

module _ (old new : StateValue) (v : VirtualRegister) (s : Place) (g : GetsSpillSlot old.slots new.slots v s) (w : IsWhole old) where
  -- existing slots stay when v gets its own
  pub slots_grow : (x : ℕ) (p : Place) → slots_at old x ≡ Some p → slots_at new x ≡ Some p
  slots_grow x p e = elim (cases_eq x v.number) [
    | inl i ↦ (
        let there : slot_name old.slots v.number ≢ NoPlace = λ z. opt_real (slot_in old x) p e (sym (opt_from (slot_in old x) p e) ∙ ap (slot_in old) i ∙ z) in
        ap opt (ap (slot_in new) i ∙ g.gives ∙ (g.had there).0 ∙ ap (slot_in old) (sym i)) ∙ e)
    | inr n ↦ (ap opt (g.others x n) ∙ e)
  ]

  -- a slot that exists once v has its own existed before, or is new, at or past the count
  pub slots_fresh : (x : ℕ) (p : Place) → slots_at new x ≡ Some p → (slots_at old x ≡ Some p) ⊎ ((k : ℕ) × (p ≡ InSlot k) × (old.slots.count ≤ k))
  slots_fresh x p e = elim (cases_eq x v.number) [
    | inl i ↦ (
        let gv = given old.slots new.slots v s g w.units w.below w.own in
        let same : p ≡ s = sym (opt_from (slot_in new x) p e) ∙ ap (slot_in new) i ∙ g.gives in
        elim gv.3 [
          | inl had ↦ inl (ap opt (ap (slot_in old) i ∙ had ∙ sym same) ∙ opt_some p (opt_real (slot_in new x) p e))
          | inr made ↦ inr (gv.0, same ∙ gv.1, made.1)
        ])
    | inr n ↦ inl (sym (ap opt (g.others x n)) ∙ e)
  ]

  -- if only the slot is made
  pub whole_given : new.places ≡ old.places → IsWhole new
  whole_given e = record {
    holds = λ r u lt h. ap (λ (x : VRegAllocsValue). alloc_of x u.number) e ∙ w.holds r u lt (ap (λ (x : VRegAllocsValue). vreg_of_preg x r) (sym e) ∙ h);
    stands_in = λ n r h.
        let x = w.stands_in n r (ap (λ (y : VRegAllocsValue). alloc_of y n) (sym e) ∙ h) in
        (x.0, (x.1.0, x.1.1, ap (λ (y : VRegAllocsValue). vreg_of_preg y r) e ∙ x.1.2));
    own_slot = λ n k h.
        let there : slot_in old n ≡ InSlot k = w.own_slot n k (ap (λ (x : VRegAllocsValue). alloc_of x n) (sym e) ∙ h) in
        opt_from (slot_in new n) (InSlot k) (slots_grow n (InSlot k) (ap opt there));
    below = given_below old.slots new.slots v s g w.units w.below w.own;
    own = own_given old.slots new.slots v s g w;
    units = given_units old.slots new.slots v s g w.units w.below w.own;
  }
    where
      own_given : (a b : SpillSlotsValue) (v : VirtualRegister) (s : Place) → GetsSpillSlot a b v s → IsWhole old → (m n k : ℕ) →
          slot_name new.slots m ≡ InSlot k → slot_name new.slots n ≡ InSlot k → m ≡ n
      own_given a b v' s' g' w' m n k h j = elim (cases_eq m v.number) [
        | inl i ↦ (let same : InSlot k ≡ s = sym h ∙ ap (slot_in new) i ∙ g.gives in i
            ∙ sym (given_own old.slots new.slots v s g w.units w.below w.own n (j ∙ same)))
        | inr o ↦ elim (cases_eq n v.number) [
          | inl i ↦ (let same : InSlot k ≡ s = sym j ∙ ap (slot_in new) i ∙ g.gives in given_own old.slots new.slots v s g w.units w.below w.own m (h ∙ same)
              ∙ sym i)
          | inr q ↦ w.own m n k (sym (g.others m o) ∙ h) (sym (g.others n q) ∙ j)
        ]
      ]

  -- if v gets a slot and no location changes, the record of the operands' places is kept
  pub give_stands : new.places ≡ old.places → (what : ℕ → What) (far : Progress) →
      Located what far old → Located what far new
  give_stands e what far st =
      let p : Placed what far (location_at old) (slots_at new) =
      step_slot what far (location_at old) (slots_at old) (slots_at new)
      (λ x q f. elim (slots_fresh x q f) [ inl h ↦ inl h | inr h ↦ inr (λ j c i. let lt = st.below j h.0 c (i ∙ h.1) in omega (arith, lt, h.2)) ]) st.placed in
      record {
        whole = whole_given e;
        placed = subst (λ (y : VRegAllocsValue). Placed what far (λ n. opt (alloc_of y n)) (slots_at new)) (sym e) p;
        below = λ j k c h. (let lt = st.below j k c h in omega (arith, lt, g.grows));
        unclobbered = st.unclobbered;
      }

-- a vreg is evicted from a register, or leaves it for another reason
module _ (old new : StateValue) (v : VirtualRegister) (r : Register) (s : Place) (lt : r.number < 64) (held : vreg_of_preg old.places r ≡ Some v)
    (g : GetsSpillSlot old.slots new.slots v s) (z : SetsAlloc old.places new.places v s) (w : IsWhole old) where
  there : place_in old v.number ≡ InRegister r
  there = w.holds r v lt held

  slot_is : (k : ℕ) × (s ≡ InSlot k) × (k < new.slots.count) × ((slot_name old.slots v.number ≡ s)
      ⊎ ((slot_name old.slots v.number ≡ NoPlace) × (old.slots.count ≤ k)))
  slot_is = given old.slots new.slots v s g w.units w.below w.own

  away : (q : Register) → is_place s (InRegister q) ≡ false
  away q = subst (λ x. is_place x (InRegister q) ≡ false) (sym slot_is.1) refl

  shift_own : (m n k : ℕ) → slot_in new m ≡ InSlot k → slot_in new n ≡ InSlot k → m ≡ n
  shift_own m n k h j = elim (cases_eq m v.number) [
    | inl i ↦ (let same : InSlot k ≡ s = sym h ∙ ap (slot_in new) i ∙ g.gives in i
        ∙ sym (given_own old.slots new.slots v s g w.units w.below w.own n (j ∙ same)))
    | inr o ↦ elim (cases_eq n v.number) [
      | inl i ↦ (let same : InSlot k ≡ s = sym j ∙ ap (slot_in new) i ∙ g.gives in given_own old.slots new.slots v s g w.units w.below w.own m (h ∙ same)
          ∙ sym i)
      | inr q ↦ w.own m n k (sym (g.others m o) ∙ h) (sym (g.others n q) ∙ j)
    ]
  ]

  -- moving a vreg from its register to its slot leaves the state whole
  pub shift_whole : IsWhole new
  shift_whole = record {
    holds = away_holds old new v s away z w;
    stands_in = away_stands old new v s away z w;
    own_slot = λ n k h. elim (cases_eq n v.number) [
      | inl i ↦ (ap (slot_in new) i ∙ g.gives ∙ sym z.here ∙ ap (place_in new) (sym i) ∙ h)
      | inr o ↦ opt_from (slot_in new n) (InSlot k) (slots_grow old new v s g w n (InSlot k) (ap opt (w.own_slot n k (sym (z.others n o) ∙ h))))
    ];
    below = given_below old.slots new.slots v s g w.units w.below w.own;
    own = shift_own;
    units = given_units old.slots new.slots v s g w.units w.below w.own;
  }

  -- a vreg that is evicted from its register moves to its slot, and no other vreg moves
  pub shifts : Shifts old new v r s
  shifts = record {
    real = g.there;
    number = slot_is.0;
    is_slot = slot_is.1;
    was = ap opt there;
    now = ap opt z.here ∙ opt_some s g.there;
    slot = ap opt g.gives ∙ opt_some s g.there;
    same = λ x n. ap opt (z.others x n);
    only_vreg = λ x e. (whole_tidy old w).apart x v.number r (opt_from (place_in old x) (InRegister r) e) there;
    empty = λ x e. elim (cases_eq x v.number) [
      | inl i ↦ (let y : InSlot slot_is.0 ≡ InRegister r = sym slot_is.1 ∙ sym z.here ∙ ap (place_in new) (sym i) ∙ e in cc)
      | inr n ↦ n ((whole_tidy old w).apart x v.number r (sym (z.others x n) ∙ e) there)
    ];
    no_slot = λ x q e. slot_no_register new.slots.count (slot_in new x) q (given_below old.slots new.slots v s g w.units w.below w.own x)
        (opt_from (slot_in new x) (InRegister q) e);
    grows = slots_grow old new v s g w;
    fresh = slots_fresh old new v s g w;
    count = g.grows;
  }

-- the vreg moves from its register to its slot
pub shift_goes_to_slot : (old new : StateValue) (v : VirtualRegister) (r : Register) (s : Place) → Shifts old new v r s →
    GoesToSlot (location_at old) (location_at new) (slots_at new) v.number (InRegister r) s
shift_goes_to_slot old new v r s h = record {
  there = λ z. cc;
  was = h.was;
  own = h.slot;
  sets = record { now = h.now; same = h.same };
  alone = h.only_vreg;
  no_slot = λ x e. h.no_slot x r e;
}

-- the record is kept if the vreg was live
pub located_after_shift : (old new : StateValue) (v : VirtualRegister) (r : Register) (s : Place) → IsWhole new → Shifts old new v r s →
    (what : ℕ → What) (far : Progress) → far.lived v.number ≡ true →
    Located what far old → Located what far new
located_after_shift old new v r s w h what far l st =
    let p : Placed what far (location_at old) (slots_at new) =
    step_slot what far (location_at old) (slots_at old) (slots_at new)
    (λ x q f. elim (h.fresh x q f) [ inl y ↦ inl y | inr y ↦ inr (λ j c i. let less = st.below j y.0 c (i ∙ y.1) in omega (arith, less, y.2)) ]) st.placed in
    record {
      whole = w;
      placed = step_evict what far (location_at old) (location_at new) (slots_at new) v.number (InRegister r) s (shift_goes_to_slot old new v r s h) l
          (ap far.clobbered h.is_slot ∙ st.unclobbered h.number) p;
      below = λ j k c e. (let less = st.below j k c e in omega (arith, less, h.count));
      unclobbered = st.unclobbered;
    }

-- what the moves after the instruction, and the rest of the listing, carry
module _ (tail : BlockTail) where
  open tail use {Known, insts, placesf, i, n, E}

  -- no edit is before the point after the instruction, and what is listed from there on carries each known vreg from
  -- where it is needed
  pub record OwesPlaces (lived out : ℕ → Bool) (X : Place → ℕ → Bool) (T S : ℕ → Option Place) (edits : List (ℕ × MoveValue)) : Type 0 where
    pub later : AllFrom (after i) (listed edits)
    pub claims : Claims Known (after_part insts (listed edits) placesf i n) (Need lived out X T S) E

  -- adding an edit at a point keeps all edits at or after that point
  pub later_push : (p : ℕ) (m : MoveValue) (es : List (ℕ × MoveValue)) → AllFrom p (listed es) → AllFrom p (listed (es ++ (p, m) ∷ []))
  unfolding AllFrom
  later_push p m es h = subst (AllFrom p) (sym (listed-push es (p, m))) (omega arith, h)

  -- the reload of the vreg is pushed
  pub shift_owes : (old new : StateValue) (v : VirtualRegister) (r : Register) (s : Place) → Shifts old new v r s →
      (lived out : ℕ → Bool) (X : Place → ℕ → Bool) (edits : List (ℕ × MoveValue)) → ((u : ℕ) → X (InRegister r) u ≡ false) →
      OwesPlaces lived out X (location_at old) (slots_at old) edits → OwesPlaces lived out X (location_at new) (slots_at new) (edits ++ a_move (after i) s (InRegister r) ∷ [])
  shift_owes old new v r s h lived out X edits clear o =
      let L : List Item = after_part insts (listed edits) placesf i n in
      let c : Claims Known (Move (record { from = s; to = InRegister r }) ∷ L) (Need lived out X (location_at new) (slots_at new)) E =
      need_evict Known E L lived out X (location_at old) (location_at new) (slots_at new) v.number (InRegister r) s (shift_goes_to_slot old new v r s h) clear
      (need_slot Known E L lived out X (location_at old) (slots_at old) (slots_at new) h.grows o.claims) in
      record {
        later = later_push (after i) (record { from = s; to = InRegister r }) edits o.later;
        claims = subst (λ l. Claims Known l (Need lived out X (location_at new) (slots_at new)) E)
            (sym (after_part-more insts (record { from = s; to = InRegister r }) edits placesf i n)) c;
      }

-- the record doesn't depend on the edits of the tables
pub located_after_edits : (what : ℕ → What) (far : Progress) (t : StateValue)
    (es : List (ℕ × MoveValue)) →
    Located what far t → Located what far (record t { edits = es })
located_after_edits what far t es st = record {
  whole = record {
    holds = st.whole.holds;
    stands_in = st.whole.stands_in;
    own_slot = st.whole.own_slot;
    below = st.whole.below;
    own = st.whole.own;
    units = st.whole.units;
  };
  placed = st.placed;
  below = st.below;
  unclobbered = st.unclobbered;
}
