-- New slots are above all others, at units of their own.
use Rattle.regalloc2_parts.proofs.Tidying.{contains_here, contains_there}
use Rattle.std.proofs.Common.{if◌then◌else◌, ℕ, zero, suc, ◌≡◌, ◌≢◌, ◌+◌, ◌-◌, ◌*◌, ◌/◌, ◌%◌, ◌<◌, ◌≤◌, Bool, true, false, List, [], ◌∷◌, refl, sym, ap, ◌∙◌}
use Rattle.std.proofs.Common.{⊎_elim, subst, arith, slice_index_or}
use Rattle.std.specs.Prelude.{All, Contains}
use Rattle.std.specs.Int.{next_multiple_of}
use Rattle.std.proofs.lemmas.Bool.{cases_eq}
use Rattle.std.proofs.Math.Nat.{mod_self, mod-eq_of_lt, mul-mod_left, add-mul-mod_self_right}
use Rattle.std.proofs.lemmas.Nat.{div-add-mod', mod_below}
use Rattle.std.proofs.lemmas.List.Elements.{All-cons}
use Rattle.regalloc2_names.specs.declared.RegClass.{RegClass}
use Rattle.regalloc2_names.specs.Register.{VirtualRegister}
use Rattle.regalloc2_names.specs.Place.{Place, NoPlace, InSlot}
use Rattle.regalloc2_semantics.specs.Places.{Owner, OfVReg, OfBranch, class_of_owner}
use Rattle.regalloc2_fastalloc_state.specs.StateParts.{SpillSlotsValue, GetsSpillSlot, AddsTempSlots, slot_name, new_slot, later_slot, later_end, units_of}
use Rattle.regalloc2_fastalloc_proofs.specs.SlotLayout.{OwnedSlot, start_in, start_of_slot, end_of_slot, IsLaidOut, AreSlotsApart, HaveDistinctOwners}
use Rattle.regalloc2_fastalloc_proofs.specs.SlotLayout.{LaysOut, IsOwnSlot, AreLaidOut}
use Rattle.regalloc2_fastalloc_proofs.proofs.Slots.SlotsGrow.{gives_stay}
use Rattle.regalloc2_fastalloc_proofs.proofs.Slots.StepsKeepSlots.{cases_none}
use Rattle.regalloc2_fastalloc_proofs.proofs.Branches.ArgMovesEffect.{in_slot_injective}

-- the next multiple is a multiple
next_is_multiple : (x y : ℕ) → 0 < y → next_multiple_of x y % y ≡ 0
next_is_multiple x y some = ⊎_elim
    (λ (none : x % y ≡ 0).
    let gone : (y - x % y) % y ≡ 0 = ap (λ r. (y - r) % y) none ∙ ap (λ n. n % y) (let e : y - 0 ≡ y = omega arith in e) ∙ mod_self y in
    ap (λ r. (x + r) % y) gone ∙ ap (λ n. n % y) (let e : x + 0 ≡ x = omega arith in e) ∙ none)
    (λ (left : x % y ≢ 0).
    let small : x % y < y = mod_below x y some in
    let less : y - x % y < y = omega (arith, left, small) in
    let parts : x / y * y + x % y ≡ x = div-add-mod' x y in
    let whole : x + (y - x % y) ≡ (x / y + 1) * y = omega (arith, parts, small) in
    ap (λ r. (x + r) % y) (mod-eq_of_lt less) ∙ ap (λ n. n % y) whole ∙ mul-mod_left (x / y + 1) y)
    (cases_eq (x % y) 0)

-- the first unit of a slot is where it begins, whichever unit names it
named_start : (by_last : Bool) (start size : ℕ) → 0 < size → start_in by_last size (if by_last then start + size - 1 else start) ≡ start
named_start true start size some = omega (arith, some)
named_start false start size some = refl

named_reach : (by_last : Bool) (start size : ℕ) → 0 < size → by_last ≡ true → size ≤ (if by_last then start + size - 1 else start) + 1
named_reach true start size some is = omega (arith, some)
named_reach false start size some is = absurd cc

-- a new slot is laid out at its units, once the count is at or past its end
pub later_laid : (s : SpillSlotsValue) (owner : Owner) (k count : ℕ) → 0 < units_of s (class_of_owner owner) → later_end s (class_of_owner owner) k ≤ count
    → IsLaidOut s.sizes s.by_last count (record { owner = owner; name = later_slot s (class_of_owner owner) k })
later_laid s owner k count some upto =
    let size : ℕ = units_of s (class_of_owner owner) in
    let start : ℕ = next_multiple_of s.count size + k * size in
    let at : start_in s.by_last size (later_slot s (class_of_owner owner) k) ≡ start = named_start s.by_last start size some in
    record {
      some = some;
      named = named_reach s.by_last start size some;
      aligned = ap (λ n. n % size) at ∙ add-mul-mod_self_right (next_multiple_of s.count size) k size ∙ next_is_multiple s.count size some;
      within = omega (arith, at, upto);
    }

-- the first unit of a new slot
pub later_start : (s : SpillSlotsValue) (owner : Owner) (k : ℕ) → 0 < units_of s (class_of_owner owner)
    → start_of_slot s.sizes s.by_last (record { owner = owner; name = later_slot s (class_of_owner owner) k }) ≡ next_multiple_of s.count
    (units_of s (class_of_owner owner)) + k * units_of s (class_of_owner owner)
later_start s owner k some = named_start s.by_last (next_multiple_of s.count (units_of s (class_of_owner owner)) + k * units_of s (class_of_owner owner))
    (units_of s (class_of_owner owner)) some

-- adding one more slot to a list
apart_more : (sizes : List ℕ) (by_last : Bool) (c : OwnedSlot) (made : List OwnedSlot) →
    All (λ x. end_of_slot sizes by_last x ≤ start_of_slot sizes by_last c) made →
    AreSlotsApart sizes by_last made → AreSlotsApart sizes by_last (c ∷ made)
apart_more sizes by_last c made below h zero zero d lt less = absurd (omega (arith, lt))
apart_more sizes by_last c made below h zero (suc j) d lt less = below j d (omega (arith, less))
apart_more sizes by_last c made below h (suc i) zero d lt less = absurd (omega (arith, lt))
apart_more sizes by_last c made below h (suc i) (suc j) d lt less = h i j d (omega (arith, lt)) (omega (arith, less))

owners_more : (c : OwnedSlot) (made : List OwnedSlot) → All (λ x. c.owner ≢ x.owner) made → HaveDistinctOwners made → HaveDistinctOwners (c ∷ made)
owners_more c made other h zero zero d lt less = absurd (omega (arith, lt))
owners_more c made other h zero (suc j) d lt less = other j d (omega (arith, less))
owners_more c made other h (suc i) zero d lt less = absurd (omega (arith, lt))
owners_more c made other h (suc i) (suc j) d lt less = h i j d (omega (arith, lt)) (omega (arith, less))

laid_upto : (sizes : List ℕ) (by_last : Bool) (m n : ℕ) (c : OwnedSlot) → m ≤ n → IsLaidOut sizes by_last m c → IsLaidOut sizes by_last n c
laid_upto sizes by_last m n c le h = record { some = h.some; named = h.named; aligned = h.aligned; within = (let w = h.within in omega (arith, w, le)) }

module _ (Known : VirtualRegister → Type 0) (s t : SpillSlotsValue) (made : List OwnedSlot) (sizes : t.sizes ≡ s.sizes) (by_last : t.by_last ≡ s.by_last)
    (grows : s.count ≤ t.count) (h : AreLaidOut Known s made) where
  -- the count rises, and nothing else changes
  pub still_laid : ((n : ℕ) → slot_name t n ≡ slot_name s n) → AreLaidOut Known t made
  still_laid names = record {
    each = subst (λ z. All (IsLaidOut z t.by_last t.count) made) (sym sizes)
        (subst (λ z. All (IsLaidOut s.sizes z t.count) made) (sym by_last) (λ k d lt. laid_upto s.sizes s.by_last s.count t.count _ grows (h.each k d lt)));
    apart = subst (λ z. AreSlotsApart z t.by_last made) (sym sizes) (subst (λ z. AreSlotsApart s.sizes z made) (sym by_last) h.apart);
    differ = h.differ;
    known = λ v is k at. h.known v is k (sym (names v.number) ∙ at);
    own = λ k d lt v e. names v.number ∙ h.own k d lt v e;
  }

  -- a slot is made at or past the count
  pub one_more_laid : (c : OwnedSlot) → s.count ≤ start_of_slot s.sizes s.by_last c → IsLaidOut s.sizes s.by_last t.count c → All (λ x. c.owner ≢ x.owner) made
      → ((v : VirtualRegister) → Known v → (k : ℕ) → slot_name t v.number ≡ InSlot k → Contains (c ∷ made) (record { owner = OfVReg v; name = k })) →
      IsOwnSlot t c → All (IsOwnSlot t) made → AreLaidOut Known t (c ∷ made)
  one_more_laid c past lies other known mine own =
      let all : All (IsLaidOut s.sizes s.by_last t.count) (c ∷ made) = All-cons (IsLaidOut s.sizes s.by_last t.count) c made lies
      (λ k d lt. laid_upto s.sizes s.by_last s.count t.count _ grows (h.each k d lt)) in
      let behind : AreSlotsApart s.sizes s.by_last (c ∷ made) = apart_more s.sizes s.by_last c made
      (λ k d lt. let w = (h.each k d lt).within in omega (arith, w, past)) h.apart in
      record {
        each = subst (λ z. All (IsLaidOut z t.by_last t.count) (c ∷ made)) (sym sizes)
            (subst (λ z. All (IsLaidOut s.sizes z t.count) (c ∷ made)) (sym by_last) all);
        apart = subst (λ z. AreSlotsApart z t.by_last (c ∷ made)) (sym sizes) (subst (λ z. AreSlotsApart s.sizes z (c ∷ made)) (sym by_last) behind);
        differ = owners_more c made other h.differ;
        known = known;
        own = All-cons (IsOwnSlot t) c made mine own;
      }

new_is_later : (s : SpillSlotsValue) (class : RegClass) → new_slot s class ≡ later_slot s class 0
new_is_later s class = by_test s.by_last
  where
    by_test : (b : Bool) → (if b then next_multiple_of s.count (units_of s class) + units_of s class - 1 else next_multiple_of s.count (units_of s class))
        ≡ (if b then next_multiple_of s.count (units_of s class) + 0 * units_of s class + units_of s class - 1 else next_multiple_of s.count
        (units_of s class) + 0 * units_of s class)
    by_test true = omega arith
    by_test false = omega arith

owner_vreg : (v w : VirtualRegister) → OfVReg v ≡ OfVReg w → v ≡ w
owner_vreg v w e = cc

module _ (Known : VirtualRegister → Type 0) (same : (v w : VirtualRegister) → Known v → Known w → v.number ≡ w.number → v ≡ w)
    (Holds : OwnedSlot → Type 0) where
  -- a known vreg has a slot, which it had or which is made
  pub gives_laid : (s t : SpillSlotsValue) (v : VirtualRegister) (p : Place) (made : List OwnedSlot) → Known v → GetsSpillSlot s t v p →
      ((c : RegClass) → 0 < units_of s c) → AreLaidOut Known s made
      → ((n : ℕ) → Holds (record { owner = OfVReg v; name = n })) → All Holds made → LaysOut Known Holds t made
  gives_laid s t v p made known gives units h holds all = ⊎_elim
      (λ (none : slot_name s v.number ≡ NoPlace).
      let m = gives.made none in
      let n : ℕ = later_slot s v.class 0 in
      let c : OwnedSlot = record { owner = OfVReg v; name = n } in
      let at : slot_name t v.number ≡ InSlot n = gives.gives ∙ m.0 ∙ ap InSlot (new_is_later s v.class) in
      let start = later_start s (OfVReg v) 0 (units v.class) in
      let count = m.1 in
      record {
        made = c ∷ made;
        laid = one_more_laid Known s t made gives.sizes gives.by_last gives.grows h c (omega (arith, start))
            (later_laid s (OfVReg v) 0 t.count (units v.class) (omega (arith, count)))
            (λ k d lt e. let x : NoPlace ≡ InSlot _ = sym none ∙ h.own k d lt v (sym e) in cc)
            (λ w is k there. ⊎_elim
            (λ (one : w.number ≡ v.number). let e : n ≡ k = in_slot_injective n k (sym at ∙ ap (slot_name t) (sym one) ∙ there) in
            subst (λ (x : OwnedSlot). Contains (c ∷ made) x) (let f : v ≡ w = sym (same w v is known one) in ap (λ x. record { owner = OfVReg x; name = n }) f
            ∙ ap (λ x. record { owner = OfVReg w; name = x }) e) (contains_here c made))
            (λ (other : w.number ≢ v.number). contains_there c _ made (h.known w is k (sym (gives.others w.number other) ∙ there)))
            (cases_eq w.number v.number))
            (λ w e. ap (λ (x : VirtualRegister). slot_name t x.number) (sym (owner_vreg v w e)) ∙ at)
            (λ k d lt w e. gives_stay s t v p gives w.number _ (h.own k d lt w e));
        kept = λ x is. contains_there c x made is;
        all = All-cons Holds c made (holds n) all;
      })
      (λ (there : slot_name s v.number ≢ NoPlace).
      let had = gives.had there in
      record {
        made = made;
        laid = still_laid Known s t made gives.sizes gives.by_last gives.grows h
            (λ n. ⊎_elim (λ (e : n ≡ v.number). ap (slot_name t) e ∙ gives.gives ∙ had.0 ∙ ap (slot_name s) (sym e)) (λ (d : n ≢ v.number). gives.others n d)
            (cases_eq n v.number));
        kept = λ x is. is;
        all = all;
      })
      (cases_none (slot_name s v.number))

temp_slot_owners_differ : (branch : ℕ) (class : RegClass) (k : ℕ) → OfBranch branch class (suc k) ≡ OfBranch branch class 0 → ⊥
temp_slot_owners_differ branch class k e = cc

-- a branch's moves take temporary slots of a class for the first time
pub record LaysOutTempSlots (Known : VirtualRegister → Type 0) (Holds : OwnedSlot → Type 0) (branch : ℕ) (class : RegClass) (taken : ℕ) (s t : SpillSlotsValue)
    (before_it : List OwnedSlot) : Type 0 where
  pub lays : LaysOut Known Holds t before_it
  pub each : (k : ℕ) → k < taken → Contains lays.made (record { owner = OfBranch branch class k; name = later_slot s class k })

module _ (Known : VirtualRegister → Type 0) (Holds : OwnedSlot → Type 0) (branch : ℕ) (class : RegClass) (s : SpillSlotsValue) (made : List OwnedSlot)
    (some : 0 < units_of s class)
    (first_time : All (λ x. (k : ℕ) → OfBranch branch class k ≢ x.owner) made) (h : AreLaidOut Known s made)
    (holds : (k n : ℕ) → k < 2 → Holds (record { owner = OfBranch branch class k; name = n })) (all : All Holds made) where
  abbrev temp_slot : ℕ → OwnedSlot
  temp_slot k = record { owner = OfBranch branch class k; name = later_slot s class k }

  one_holds : All Holds (temp_slot 0 ∷ made)
  one_holds = All-cons Holds (temp_slot 0) made (holds 0 (later_slot s class 0) (omega arith)) all

  -- the slots with a given number of temporary ones
  abbrev with_lent : ℕ → ℕ → SpillSlotsValue
  with_lent count num_temp_slots = record {
    vreg_spillslots = s.vreg_spillslots;
    count = count;
    num_temp_slots = num_temp_slots;
    sizes = s.sizes;
    by_last = s.by_last;
  }

  not_vreg : (k : ℕ) (v : VirtualRegister) → OfBranch branch class k ≡ OfVReg v → ⊥
  not_vreg k v e = cc

  one_lent : (count num_temp_slots : ℕ) → later_end s class 0 ≤ count → AreLaidOut Known (with_lent count num_temp_slots) (temp_slot 0 ∷ made)
  one_lent count num_temp_slots upto =
      let start = later_start s (OfBranch branch class 0) 0 some in
      one_more_laid Known s (with_lent count num_temp_slots) made refl refl (omega (arith, upto)) h (temp_slot 0) (omega (arith, start))
      (later_laid s (OfBranch branch class 0) 0 count some upto)
      (λ k d lt. first_time k d lt 0) (λ v is k there. contains_there (temp_slot 0) _ made (h.known v is k there)) (λ v e. absurd (not_vreg 0 v e)) h.own

  two_lent : (count num_temp_slots : ℕ) → later_end s class 1 ≤ count
      → AreLaidOut Known (with_lent count num_temp_slots) (temp_slot 1 ∷ temp_slot 0 ∷ made)
  two_lent count num_temp_slots upto =
      let g = one_lent (later_end s class 0) num_temp_slots (omega arith) in
      let start = later_start s (OfBranch branch class 1) 1 some in
      one_more_laid Known (with_lent (later_end s class 0) num_temp_slots) (with_lent count num_temp_slots) (temp_slot 0 ∷ made) refl refl
      (omega (arith, upto)) g (temp_slot 1) (omega (arith, start)) (later_laid s (OfBranch branch class 1) 1 count some upto)
      (All-cons (λ x. OfBranch branch class 1 ≢ x.owner) (temp_slot 0) made (temp_slot_owners_differ branch class 0) (λ k d lt. first_time k d lt 1))
      (λ v is k there. contains_there (temp_slot 1) _ (temp_slot 0 ∷ made) (g.known v is k there)) (λ v e. absurd (not_vreg 1 v e)) g.own

  -- adding temporary slots for a branch, two at most, leaves all slots disjoint, each with one owner
  pub lends_laid : (t : SpillSlotsValue) (taken : ℕ) → taken ≤ 2 → AddsTempSlots s t class taken → LaysOutTempSlots Known Holds branch class taken s t made
  lends_laid t zero few l = (let same = l.none refl in record {
    lays = record {
      made = made;
      laid = still_laid Known s t made l.sizes l.by_last (omega (arith, same)) h
          (λ n. ap (λ xs. slice_index_or xs n NoPlace) l.vreg_spillslots);
      kept = λ x is. is;
      all = all;
    };
    each = λ k lt. absurd (omega (arith, lt));
  })
  lends_laid t (suc zero) few l =
      let end = l.some 0 (omega arith) in
      let g = one_lent t.count t.num_temp_slots (omega (arith, end)) in
      record {
        lays = record {
          made = temp_slot 0 ∷ made;
          laid = still_laid Known (with_lent t.count t.num_temp_slots) t (temp_slot 0 ∷ made) l.sizes l.by_last
              (omega arith) g (λ n. ap (λ xs. slice_index_or xs n NoPlace) l.vreg_spillslots);
          kept = λ x is. contains_there (temp_slot 0) x made is;
          all =
              one_holds;
        };
        each = λ k lt. subst (λ n. Contains (temp_slot 0 ∷ made) (temp_slot n)) (let e : 0 ≡ k = omega (arith, lt) in e)
            (contains_here (temp_slot 0) made);
      }
  lends_laid t (suc (suc zero)) few l =
      let end = l.some 1 (omega arith) in
      let g = two_lent t.count t.num_temp_slots (omega (arith, end)) in
      record {
        lays = record {
          made = temp_slot 1 ∷ temp_slot 0 ∷ made;
          laid = still_laid Known (with_lent t.count t.num_temp_slots) t (temp_slot 1 ∷ temp_slot 0 ∷ made) l.sizes l.by_last (omega arith) g
              (λ n. ap (λ xs. slice_index_or xs n NoPlace) l.vreg_spillslots);
          kept = λ x is. contains_there (temp_slot 1) x (temp_slot 0 ∷ made) (contains_there (temp_slot 0) x made is);
          all = All-cons Holds (temp_slot 1) (temp_slot 0 ∷ made) (holds 1 (later_slot s class 1) (omega arith)) one_holds;
        };
        each = λ k lt. ⊎_elim (λ (e : k ≡ 0). subst (λ n. Contains (temp_slot 1 ∷ temp_slot 0 ∷ made) (temp_slot n)) (sym e)
            (contains_there (temp_slot 1) (temp_slot 0) (temp_slot 0 ∷ made) (contains_here (temp_slot 0) made)))
            (λ (d : k ≢ 0). subst (λ n. Contains (temp_slot 1 ∷ temp_slot 0 ∷ made) (temp_slot n)) (let e : 1 ≡ k = omega (arith, d, lt) in e)
            (contains_here (temp_slot 1) (temp_slot 0 ∷ made))) (cases_eq k 0);
      }
  lends_laid t (suc (suc (suc k))) few l = absurd (omega (arith, few))

-- where no vreg has a slot, none was made
pub none_laid : (Known : VirtualRegister → Type 0) (s : SpillSlotsValue) → ((n : ℕ) → slot_name s n ≡ NoPlace) → AreLaidOut Known s []
none_laid Known s none = record {
  each = λ k d lt. absurd (omega (arith, lt));
  apart = λ i j d lt less. absurd (omega (arith, less));
  differ = λ i j d lt less. absurd (omega (arith, less));
  known = λ v is k at. (let x : NoPlace ≡ InSlot k = sym (none v.number) ∙ at in cc);
  own = λ k d lt. absurd (omega (arith, lt));
}
