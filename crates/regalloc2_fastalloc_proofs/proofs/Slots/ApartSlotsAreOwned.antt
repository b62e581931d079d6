-- Disjoint slots are owned: each slot name in an output has one owner, and units of its own.
use Rattle.std.proofs.Common.{if◌then◌else◌, ℕ, zero, suc, ◌≡◌, ◌≢◌, ◌+◌, ◌%◌, ◌<◌, ◌≤◌, Bool, true, false, List, [], ◌∷◌, refl, sym, ap, ◌∙◌, ◌⊎◌, inl, inr}
use Rattle.std.proofs.Common.{⊎_elim, subst, arith, length, slice_index_or, nat_eq, eq-eqb}
use Rattle.std.specs.Prelude.{All, Contains}
use Rattle.std.proofs.lemmas.Bool.{ne_eqb, cases_eq}
use Rattle.std.proofs.lemmas.List.{get_or_default}
use Rattle.regalloc2_names.specs.declared.RegClass.{RegClass}
use Rattle.regalloc2_names.specs.declared.RegClass.TheVariants.{Int}
use Rattle.regalloc2_names.specs.Register.{VirtualRegister}
use Rattle.regalloc2_names.specs.Place.{Place, NoPlace, InRegister, InSlot, before}
use Rattle.regalloc2_function.specs.FunctionValue.{FunctionValue, slot_size, inst_at, EachOperand}
use Rattle.regalloc2_function.specs.OutputValue.{OutputValue, DebugLocation, MoveValue, allocs_of, place_at}
use Rattle.regalloc2_semantics.specs.Places.{Owner, OfVReg, OfBranch, class_of_owner, units_of_owner, first_unit, IsSlotOf, IsOfClass, AreSlotsOwned}
use Rattle.regalloc2_fastalloc_state.specs.StateParts.{SpillSlotsValue, slot_name, units_of}
use Rattle.regalloc2_fastalloc_proofs.specs.SlotLayout.{OwnedSlot, units_in, start_in, start_of_slot, end_of_slot, IsLaidOut, AreSlotsApart, AreLaidOut}
use Rattle.regalloc2_fastalloc_proofs.specs.SlotLayout.{IsNameOfSlot, IsEndOf, IsOfOneClass, ServesAt}

-- the slot of a vreg that is known
abbrev pub IsSlotOfKnown : (VirtualRegister → Type 0) → SpillSlotsValue → ℕ → Type 0
IsSlotOfKnown Known s n = (v : VirtualRegister) × Known v × (slot_name s v.number ≡ InSlot n)

-- a place is no slot, or that of a vreg
abbrev pub IsNoBranchSlot : (ℕ → Owner) → Place → Type 0
IsNoBranchSlot owner p = (n : ℕ) → p ≡ InSlot n → (v : VirtualRegister) × (owner n ≡ OfVReg v)

-- a move that names a branch's slot is at the point before that branch
abbrev pub IsBeforeBranch : (ℕ → Owner) → ℕ × MoveValue → Type 0
IsBeforeBranch owner e = (n i : ℕ) (class : RegClass) (index : ℕ) → owner n ≡ OfBranch i class index → (e.1.from ≡ InSlot n) ⊎ (e.1.to ≡ InSlot n) →
    e.0 ≡ before i

-- Slots are owned: that of a known vreg by that vreg. A branch has at most two for a class, which aren't the place of
-- any operand or debug location, and which only the moves before it name.
pub record OwnsSlots (Known : VirtualRegister → Type 0) (f : FunctionValue) (s : SpillSlotsValue) (out : OutputValue) : Type 0 where
  pub owned : AreSlotsOwned f out
  pub vregs : (v : VirtualRegister) (n : ℕ) → Known v → slot_name s v.number ≡ InSlot n → owned.owner n ≡ OfVReg v
  pub two : (n i : ℕ) (class : RegClass) (index : ℕ) → IsSlotOf out n → owned.owner n ≡ OfBranch i class index → index < 2
  pub moves : All (IsBeforeBranch owned.owner) out.edits
  pub allocs : All (IsNoBranchSlot owned.owner) out.allocs
  pub shown : All (λ d. IsNoBranchSlot owned.owner d.place) out.debug_locations

-- the owner of the slot of a name: that for which it was made
unfoldable pub owner_in : List OwnedSlot → ℕ → Owner
owner_in [] n = OfBranch n Int 0
owner_in (c ∷ made) n = if nat_eq c.name n then c.owner else owner_in made n

-- the name is one of the units
name_is_unit : (by_last : Bool) (size name : ℕ) → 0 < size → (by_last ≡ true → size ≤ name + 1) → (start_in by_last size name ≤ name)
    × (name < start_in by_last size name + size)
name_is_unit true size name some named = (let n = named refl in (omega (arith, some, n), omega (arith, some, n)))
name_is_unit false size name some named = (omega arith, omega (arith, some))

-- no two of the slots that were made have one name
abbrev pub NamesDiffer : List OwnedSlot → Type 0
NamesDiffer made = (i j : ℕ) (d : OwnedSlot) → i < j → j < length made → (slice_index_or made i d).name ≢ (slice_index_or made j d).name

names_differ : (sizes : List ℕ) (by_last : Bool) (count : ℕ) (made : List OwnedSlot) → All (IsLaidOut sizes by_last count) made →
    AreSlotsApart sizes by_last made →
    NamesDiffer made
names_differ sizes by_last count made each apart i j d lt less e =
    let a = each i d (omega (arith, lt, less)) in
    let b = each j d less in
    let x = (name_is_unit by_last (units_in sizes (slice_index_or made i d).owner) (slice_index_or made i d).name a.some a.named).0 in
    let y = (name_is_unit by_last (units_in sizes (slice_index_or made j d).owner) (slice_index_or made j d).name b.some b.named).1 in
    let z = apart i j d lt less in
    omega (arith, x, y, z, e)

same_name : (b : Bool) (x y : Owner) → b ≡ true → (if b then x else y) ≡ x
same_name true x y e = refl
same_name false x y e = absurd cc

other_name : (b : Bool) (x y : Owner) → b ≡ false → (if b then x else y) ≡ y
other_name true x y e = absurd cc
other_name false x y e = refl

owner_at : (made : List OwnedSlot) → NamesDiffer made → (k : ℕ) (d : OwnedSlot) → k < length made →
    owner_in made (slice_index_or made k d).name ≡ (slice_index_or made k d).owner
unfolding owner_in
owner_at [] differ k d lt = absurd (omega (arith, lt))
owner_at (c ∷ made) differ zero d lt = same_name (nat_eq c.name c.name) c.owner (owner_in made c.name) (eq-eqb c.name c.name refl)
owner_at (c ∷ made) differ (suc k) d lt =
    other_name (nat_eq c.name (slice_index_or made k d).name) c.owner (owner_in made (slice_index_or made k d).name)
    (ne_eqb c.name (slice_index_or made k d).name (differ 0 (suc k) d (omega arith) lt))
    ∙ owner_at made (λ i j x less small. differ (suc i) (suc j) x (omega (arith, less)) (omega (arith, small))) k d (omega (arith, lt))

module _ (Known : VirtualRegister → Type 0) (f : FunctionValue) (s : SpillSlotsValue) (made : List OwnedSlot) (h : AreLaidOut Known s made) where
  -- a slot that was made is found by its name to have the owner for which it was made
  pub owner_found : (c : OwnedSlot) → Contains made c → owner_in made c.name ≡ c.owner
  owner_found c (k, lt, e) = subst (λ (x : OwnedSlot). owner_in made x.name ≡ x.owner) e
      (owner_at made (names_differ s.sizes s.by_last s.count made h.each h.apart) k c lt)

  lies : (c : OwnedSlot) → Contains made c → IsLaidOut s.sizes s.by_last s.count c
  lies c (k, lt, e) = subst (IsLaidOut s.sizes s.by_last s.count) e (h.each k c lt)

  apart_or : (i j : ℕ) → i ≢ j → (i < j) ⊎ (j < i)
  apart_or zero zero d = absurd (d refl)
  apart_or zero (suc j) d = inl (omega arith)
  apart_or (suc i) zero d = inr (omega arith)
  apart_or (suc i) (suc j) d = ⊎_elim (λ l. inl (omega (arith, l))) (λ g. inr (omega (arith, g))) (apart_or i j (λ e. d (ap suc e)))

  -- two slots are one, or have disjoint units and two owners
  abbrev AreTwo : OwnedSlot → OwnedSlot → Type 0
  AreTwo c x = (c.owner ≢ x.owner) × ((end_of_slot s.sizes s.by_last c ≤ start_of_slot s.sizes s.by_last x)
      ⊎ (end_of_slot s.sizes s.by_last x ≤ start_of_slot s.sizes s.by_last c))

  ordered : (i j : ℕ) → i < j → j < length made → (c x d : OwnedSlot) → slice_index_or made i d ≡ c → slice_index_or made j d ≡ x → AreTwo c x × AreTwo x c
  ordered i j lt less c x d a b =
      let differ : c.owner ≢ x.owner = λ e. h.differ i j d lt less (ap (λ (y : OwnedSlot). y.owner) a ∙ e ∙ sym (ap (λ (y : OwnedSlot). y.owner) b)) in
      let behind : end_of_slot s.sizes s.by_last x ≤ start_of_slot s.sizes s.by_last c =
      subst (λ y. end_of_slot s.sizes s.by_last y ≤ start_of_slot s.sizes s.by_last c) b
      (subst (λ y. end_of_slot s.sizes s.by_last (slice_index_or made j d) ≤ start_of_slot s.sizes s.by_last y) a (h.apart i j d lt less)) in
      ((differ, inr behind), (λ e. differ (sym e), inl behind))

  -- two slots that were made are one, or have two owners and disjoint units
  pub one_or_two : (c x : OwnedSlot) → Contains made c → Contains made x → (c ≡ x) ⊎ AreTwo c x
  one_or_two c x (i, lt, a) (j, less, b) =
      let b2 : slice_index_or made j c ≡ x = get_or_default made j c x less ∙ b in
      ⊎_elim
      (λ (e : i ≡ j). inl (sym a ∙ ap (λ n. slice_index_or made n c) e ∙ b2))
      (λ (d : i ≢ j). inr (by_order d b2))
      (cases_eq i j)
    where
      by_order : i ≢ j → slice_index_or made j c ≡ x → AreTwo c x
      by_order d b2 = ⊎_elim (λ (l : i < j). (ordered i j l less c x c a b2).0) (λ (g : j < i). (ordered j i g lt x c c b2 a).1) (apart_or i j d)

  module _ (out : OutputValue) (count : out.num_spillslots ≡ s.count) (sizes : (c : RegClass) → slot_size f.slot_sizes c ≡ units_of s c)
      (by_last : f.named_by_last_slot ≡ s.by_last)
      (operands : (i : ℕ) → i < length f.insts → EachOperand (inst_at f i)
      (λ k o. (n : ℕ) → place_at (allocs_of out i) k ≡ InSlot n → Known o.vreg × (slot_name s o.vreg.number ≡ InSlot n)))
      (allocs : All (λ p. (n : ℕ) → p ≡ InSlot n → IsSlotOfKnown Known s n) out.allocs) (moves : All (IsOfOneClass made) out.edits)
      (shown : All (λ d. (n : ℕ) → d.place ≡ InSlot n → IsSlotOfKnown Known s n) out.debug_locations)
      (met : (c : OwnedSlot) → Contains made c → (i : ℕ) (class : RegClass) (index : ℕ) → c.owner ≡ OfBranch i class index → ((i < length f.insts)
      × ((inst_at f i).is_branch ≡ true)) × (index < 2)) where
    -- the slot of a known vreg was made
    known_named : (n : ℕ) → IsSlotOfKnown Known s n → IsNameOfSlot made n
    known_named n (v, known, is) = (record { owner = OfVReg v; name = n }, h.known v known n is, refl)

    -- the owner of a vreg's slot is the vreg
    own_slot : (v : VirtualRegister) (n : ℕ) → Known v → slot_name s v.number ≡ InSlot n → owner_in made n ≡ OfVReg v
    own_slot v n known is = owner_found _ (h.known v known n is)

    -- an end of a move names a slot that was made, and that serves there
    end_named : (point : ℕ) (class : RegClass) (p : Place) (n : ℕ) → IsEndOf made point class p → p ≡ InSlot n → IsNameOfSlot made n
        × ServesAt point (owner_in made n)
    end_named point class p n is at =
        let x = subst (IsEndOf made point class) at is in
        let mine : x.0.owner ≡ owner_in made n = sym (owner_found x.0 x.1) ∙ ap (owner_in made) x.2 in
        ((x.0, x.1, x.2), subst (ServesAt point) mine x.4)

    before_branch : All (IsBeforeBranch (owner_in made)) out.edits
    before_branch k d lt n i class index of names =
        let m = moves k d lt in
        let point : ℕ = (slice_index_or out.edits k d).0 in
        subst (ServesAt point) of (⊎_elim (λ from. (end_named point m.0 _ n m.1 from).1) (λ to. (end_named point m.0 _ n m.2 to).1) names)

    -- every slot that the output names is the name of a slot
    named : (n : ℕ) → IsSlotOf out n → IsNameOfSlot made n
    named n (inl (k, x, lt, at, is)) = known_named n (allocs k x lt n (at ∙ is))
    named n (inr (inl (k, x, lt, at, is))) = (let m = subst (IsOfOneClass made) at (moves k x lt) in
        ⊎_elim (λ from. (end_named x.0 m.0 _ n m.1 from).0) (λ to. (end_named x.0 m.0 _ n m.2 to).0) is)
    named n (inr (inr (k, x, lt, at, is))) = known_named n (shown k x lt n (subst (λ (d : DebugLocation). d.place ≡ InSlot n) (sym at) is))

    -- the owner's slot has as many units as were made, and the same first one
    first_is : (c : OwnedSlot) → first_unit f c.owner c.name ≡ start_of_slot s.sizes s.by_last c
    first_is c = ap (λ z. start_in f.named_by_last_slot z c.name) (sizes (class_of_owner c.owner))
        ∙ ap (λ b. start_in b (units_in s.sizes c.owner) c.name) by_last

    owner_is : (n : ℕ) → IsNameOfSlot made n → (c : OwnedSlot) × Contains made c × (c.name ≡ n) × (owner_in made n ≡ c.owner)
        × (first_unit f (owner_in made n) n ≡ start_of_slot s.sizes s.by_last c) × (units_of_owner f (owner_in made n) ≡ units_in s.sizes c.owner)
    owner_is n (c, there, is) =
        let mine : owner_in made n ≡ c.owner = ap (owner_in made) (sym is) ∙ owner_found c there in (
          c,
          there,
          is,
          mine,
          ap (λ o. first_unit f o n) mine ∙ ap (first_unit f c.owner) (sym is) ∙ first_is c,
          ap (units_of_owner f) mine
              ∙ sizes (class_of_owner c.owner),
        )

    end_of_class : (point : ℕ) (class : RegClass) (p : Place) → IsEndOf made point class p → IsOfClass (owner_in made) p class
    end_of_class point class NoPlace h = h
    end_of_class point class (InRegister r) h = h
    end_of_class point class (InSlot n) (c, there, is, of, serves) = ap class_of_owner (ap (owner_in made) (sym is) ∙ owner_found c there) ∙ of

    -- the slots of an output are owned, if they are disjoint and its moves keep to a class
    pub slots_owned : OwnsSlots Known f s out
    slots_owned = record {
      owned = record {
        owner = owner_in made;
        own = λ m n a b e.
            let x = owner_is m (named m a) in
            let y = owner_is n (named n b) in
            ⊎_elim (λ (one : x.0 ≡ y.0). sym x.2 ∙ ap (λ (c : OwnedSlot). c.name) one ∙ y.2) (λ (two : AreTwo x.0 y.0). absurd (two.0 (sym x.3 ∙ e ∙ y.3)))
            (one_or_two x.0 y.0 x.1 y.1);
        branches = λ n i class index a e.
            let x = owner_is n (named n a) in
            (met x.0 x.1 i class index (sym x.3 ∙ e)).0;
        operands = λ i lt k less n at.
            let o = operands i lt k less n at in
            owner_found _ (h.known _ o.0 n o.1);
        named = λ n a last.
            let x = owner_is n (named n a) in
            let l = (lies x.0 x.1).named (sym by_last ∙ last) in
            let u = x.5 in
            let e = x.2 in
            omega (arith, l, u, e);
        aligned = λ n a.
            let x = owner_is n (named n a) in
            ap (λ z. z % units_of_owner f (owner_in made n)) x.4 ∙ ap (λ z. start_of_slot s.sizes s.by_last x.0 % z) x.5 ∙ (lies x.0 x.1).aligned;
        within = λ n a.
            let x = owner_is n (named n a) in
            let w = (lies x.0 x.1).within in
            let u = x.5 in
            let e = x.4 in
            omega (arith, w, u, e, count);
        apart = λ m n a b other.
            let x = owner_is m (named m a) in
            let y = owner_is n (named n b) in
            let xu = x.5 in
            let xs = x.4 in
            let yu = y.5 in
            let ys = y.4 in
            ⊎_elim (λ (one : x.0 ≡ y.0). absurd (other (sym x.2 ∙ ap (λ (c : OwnedSlot). c.name) one ∙ y.2)))
            (λ (two : AreTwo x.0 y.0). ⊎_elim (λ l. inl (omega (arith, l, xu, xs, ys))) (λ g. inr (omega (arith, g, yu, ys, xs))) two.1)
            (one_or_two x.0 y.0 x.1 y.1);
        moves = λ k d lt.
            let m = moves k d lt in
            let point : ℕ = (slice_index_or out.edits k d).0 in
            (m.0, end_of_class point m.0 _ m.1, end_of_class point m.0 _ m.2);
      };
      vregs = own_slot;
      two = λ n i class index a e.
          let x = owner_is n (named n a) in
          (met x.0 x.1 i class index (sym x.3 ∙ e)).1;
      moves = before_branch;
      allocs = λ k d lt n at.
          let x = allocs k d lt n at in
          (x.0, own_slot x.0 n x.1 x.2);
      shown = λ k d lt n at.
          let x = shown k d lt n at in
          (x.0, own_slot x.0 n x.1 x.2);
    }
