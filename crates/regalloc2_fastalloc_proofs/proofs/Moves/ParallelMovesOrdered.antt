-- Parallel moves of one class, put in an order in which they can be run.
use Rattle.std.proofs.Common.{ℕ, ◌≡◌, ◌≢◌, ◌+◌, ◌-◌, ◌*◌, ◌<◌, ◌≤◌, Bool, true, false, if◌then◌else◌, [], length, get_or, Option, None, Some, refl, sym, ap}
use Rattle.std.proofs.Common.{◌∙◌, subst, inl, inr, ◌⊎◌, ⊎_elim, arith}
use Rattle.std.specs.Prelude.{Contains, IfSome, IfNone, ◌&&◌, not, slice_index_or}
use Rattle.std.specs.Int.{next_multiple_of}
use Rattle.std.specs.List.{All}
use Rattle.std.proofs.lemmas.Bool.{cases_eq, and_parts}
use Rattle.std.proofs.Math.Nat.{mul-le-mul_right}
use Rattle.std.proofs.lemmas.List.{get_or_default, get_or-map, length-map}
use Rattle.std.proofs.lemmas.List.Sums.{count_by-le-length}
use Rattle.std.proofs.lemmas.List.Elements.{All-contains}
use Rattle.regalloc2_index.proofs.Bools.{not_with_itself}
use Rattle.regalloc2_names.specs.declared.RegClass.{RegClass}
use Rattle.regalloc2_names.specs.declared.sets.PRegSet.{PRegSet}
use Rattle.regalloc2_names.specs.Register.{has_register, Register, class_code, is_register}
use Rattle.regalloc2_names.specs.Place.{Place, NoPlace, InRegister, InSlot, is_no_place, is_on_stack}
use Rattle.regalloc2_names.proofs.Bits.{class_code-lt}
use Rattle.regalloc2_parts.specs.AtOnce.{Ends, ends, ends_of, own_names, in_turn, IsOfMoves}
use Rattle.regalloc2_parts.specs.Resolved.{IsResolution, IsUnnamed}
use Rattle.regalloc2_fastalloc_state.specs.declared.inst_regs.InstRegs.{InstRegs}
use Rattle.regalloc2_parts.specs.declared.scratch_pool.ScratchPair.{ScratchPair}
use Rattle.regalloc2_parts.specs.declared.scratch_pool.ScratchPool.{ScratchPool}
use Rattle.regalloc2_fastalloc_state.specs.StateParts.{SpillSlotsValue, AllocatableRegsValue, IsLeastRecentIn, SlotsHaveOneOwner, AddsTempSlots, later_end}
use Rattle.regalloc2_fastalloc_state.specs.StateParts.{later_slot, units_of, owners, most_units}
use Rattle.regalloc2_fastalloc_state.specs.OutOfResources.{SlotsExhaustedWith}
use Rattle.regalloc2_fastalloc_state.specs.InstRegs.{IsAvailableAt}
use Rattle.regalloc2_fastalloc_state.specs.Positions.{both_positions}
use Rattle.regalloc2_fastalloc_proofs.specs.InstSteps.{StateValue, MayHold}
use Rattle.regalloc2_fastalloc_state.specs.ScratchPool.{Moves, IsOfScratchPair, IsScratchTaken, DoDiffer, IsUsableFor, IsOrderedWith, HasTooFewSlots, AreThere}
use Rattle.regalloc2_fastalloc_proofs.specs.BranchSteps.{AreNextTempSlots, MayBeScratch, IsScratchRegFor, RegsAvoidStack, IsSlotBelow, AreBetweenSlots}
use Rattle.regalloc2_fastalloc_proofs.specs.BranchSteps.{IsScratchPlace, IsScratchUsed, IsOrdered, OrdersMoves}
use Rattle.regalloc2_semantics.proofs.Cells.{is_register-same}
use Rattle.regalloc2_carry.proofs.Plain.{end_near}

-- a slot is named by one of its units
named_within : (b : Bool) (start size : ℕ) → 0 < size → (start ≤ (if b then start + size - 1 else start))
    × ((if b then start + size - 1 else start) < start + size)
named_within true start size some = (omega (arith, some), omega (arith, some))
named_within false start size some = (omega (arith, some), omega (arith, some))

module _ (s : SpillSlotsValue) (class : RegClass) (owned : SlotsHaveOneOwner s) where
  some_units : 0 < units_of s class
  some_units = (owned.sizes (class_code class) (class_code-lt class)).0

  -- a later slot is past the count, and past the end of the slots before it
  pub later_from : (k : ℕ) → (next_multiple_of s.count (units_of s class) + k * units_of s class ≤ later_slot s class k)
      × (later_slot s class k < later_end s class k)
  later_from k = named_within s.by_last (next_multiple_of s.count (units_of s class) + k * units_of s class) (units_of s class) some_units

  -- a new slot has a name at or past the count of units
  pub later_past : (k : ℕ) → s.count ≤ later_slot s class k
  later_past k = let h = (later_from k).0 in omega (arith, h)

  -- the next two slots of a class have two names
  pub later_apart : later_slot s class 0 ≢ later_slot s class 1
  later_apart e =
      let a = (later_from 0).1 in
      let b = (later_from 1).0 in
      omega (arith, a, b, e)

  -- the first of the next two slots ends no later than the second
  pub first_end : later_end s class 0 ≤ later_end s class 1
  first_end = omega arith

module _ (s : SpillSlotsValue) (class : RegClass) (pair : ScratchPair) (next : AreNextTempSlots s class pair) where
  -- if there is no first temporary slot, there is no second
  pub next_in_order : pair.first ≡ None → pair.second ≡ None
  next_in_order none = by_second pair.second refl
    where
      by_second : (o : Option Place) → pair.second ≡ o → pair.second ≡ None
      by_second None e = e
      by_second (Some p) e =
          let full = next.short (inl none) in
          let fits = (next.second p e).1 in
          absurd (omega (arith, full, fits))

  -- the two temporary slots of a class are two places
  pub next_differ : DoDiffer pair
  next_differ p q a b e =
      let x : p ≡ InSlot (later_slot s class 0) = (next.first p a).0 in
      let y : q ≡ InSlot (later_slot s class 1) = (next.second q b).0 in
      let same : InSlot (later_slot s class 0) ≡ InSlot (later_slot s class 1) = sym x ∙ e ∙ y in
      later_apart s class next.owned (let z : later_slot s class 0 ≡ later_slot s class 1 = cc in z)

  -- a temporary slot is new
  pub next_new : (p : Place) → IsOfScratchPair pair p → (k : ℕ) × (p ≡ InSlot k) × (s.count ≤ k)
  next_new p (inl a) = (later_slot s class 0, (next.first p a).0, later_past s class next.owned 0)
  next_new p (inr a) = (later_slot s class 1, (next.second p a).0, later_past s class next.owned 1)

  -- temporary slots that are taken end within the greatest number of units
  pub taken_fits : (taken : ℕ) → AreThere pair taken → (k : ℕ) → taken ≡ k + 1 → later_end s class k ≤ most_units
  taken_fits taken there k e = elim (cases_eq k 0) [
    | inl z ↦ (let x = there.1 (omega (arith, e)) in subst (λ n. later_end s class n ≤ most_units) (sym z) (next.first x.0 x.1).1)
    | inr nz ↦ (
        let few = there.0 in
        let x = there.2 (omega (arith, e, nz)) in
        let one : k ≡ 1 = omega (arith, e, nz, few) in
        subst (λ n. later_end s class n ≤ most_units) (sym one) (next.second x.0 x.1).1)
  ]

  module _ (new : SpillSlotsValue) (taken : ℕ) (lends : AddsTempSlots s new class taken) (few : taken ≤ 2) where
    -- adding temporary slots only increases the count of units
    pub lends_grows : s.count ≤ new.count
    lends_grows = elim (cases_eq taken 0) [
      | inl z ↦ (let e = lends.none z in omega (arith, e))
      | inr nz ↦ (let e = lends.some (taken - 1) (omega (arith, nz)) in omega (arith, e))
    ]

    -- a temporary slot that is taken is below the new count
    pub taken_below : (p : Place) → IsScratchTaken pair taken p → (k : ℕ) × (p ≡ InSlot k) × (s.count ≤ k) × (k < new.count) × (j : ℕ)
        × (k ≡ later_slot s class j)
        × (later_end s class j ≤ new.count)
    taken_below p (inl (a, some)) =
        let low = (later_from s class next.owned 0).1 in
        let upto : later_end s class 0 ≤ new.count = elim (cases_eq taken 1) [
          | inl one ↦ (let e = lends.some 0 (omega (arith, one)) in omega (arith, e))
          | inr other ↦ (let e = lends.some 1 (omega (arith, other, some, few)) in let more = first_end s class next.owned in omega (arith, e, more))
        ] in
        (later_slot s class 0, (next.first p a).0, later_past s class next.owned 0, omega (arith, low, upto), 0, refl, upto)
    taken_below p (inr (a, some)) =
        let low = (later_from s class next.owned 1).1 in
        let e = lends.some 1 (omega (arith, some, few)) in
        (later_slot s class 1, (next.second p a).0, later_past s class next.owned 1, omega (arith, e, low), 1, refl, omega (arith, e))

-- a property that an option's item has if it is there holds of its item
if_some : {T : Type 0} (P : T → Type 0) (o : Option T) (x : T) → IfSome o P → o ≡ Some x → P x
if_some P o x h e = subst (λ z. IfSome z P) e h

-- two results of requesting temporary slots, each in its range or out of room, are the next two slots of the class
pub are_next : (s : SpillSlotsValue) (class : RegClass) (a b : Option Place) → IfSome a (λ p. p ≡ InSlot (later_slot s class 0)) →
    IfSome a (λ p. later_end s class 0 ≤ most_units) → IfNone a (most_units < later_end s class 0)
    → IfSome b (λ p. p ≡ InSlot (later_slot s class 1)) → IfSome b (λ p. later_end s class 1 ≤ most_units) → IfNone b (most_units < later_end s class 1) →
    SlotsHaveOneOwner s → AreNextTempSlots s class (record { first = a; second = b })
are_next s class a b slot room full slot2 room2 full2 owned = record {
  first = λ p e. (if_some (λ q. q ≡ InSlot (later_slot s class 0)) a p slot e, if_some (λ q. later_end s class 0 ≤ most_units) a p room e);
  second = λ p e. (if_some (λ q. q ≡ InSlot (later_slot s class 1)) b p slot2 e, if_some (λ q. later_end s class 1 ≤ most_units) b p room2 e);
  short = ⊎_elim
      (λ e. let f : most_units < later_end s class 0 = subst (λ z. IfNone z (most_units < later_end s class 0)) e full in let more = first_end s class owned in
      omega (arith, f, more))
      (λ e. subst (λ z. IfNone z (most_units < later_end s class 1)) e full2);
  owned = owned;
}

-- a register that was found among the available ones may be a scratch register, and so may the class's dedicated one
pub found_or : (regs : AllocatableRegsValue) (class : RegClass) (free : PRegSet) (o : Option Register) → IfSome o (IsLeastRecentIn regs class free) →
    IfSome o (λ r. (slice_index_or regs.dedicated_scratch (class_code class) None ≡ Some r) ⊎ IsLeastRecentIn regs class free r)
found_or regs class free None h = h
found_or regs class free (Some r) h = inr h

-- A scratch pair that was found for a class: its first place is the register first, the dedicated one or the least
-- recently used one of those that are free; its second place, if it has one, is the least recently used one of the
-- rest.
pub record PairFound : Type 0 where
  pub inst_regs : InstRegs
  pub t : StateValue
  pub regs : AllocatableRegsValue
  pub class : RegClass
  pub free : PRegSet
  pub rest : PRegSet
  pub first : Register
  pub place : Place
  pub second : Option Place
  pub oldest : Option Register
  pub allocatable : t.allocatable ≡ regs.allocatable
  pub dedicated_scratch : t.dedicated_scratch ≡ regs.dedicated_scratch
  pub is_free : (r : Register) → has_register free r ≡ true → IsAvailableAt inst_regs both_positions r
  pub chosen : (slice_index_or regs.dedicated_scratch (class_code class) None ≡ Some first) ⊎ IsLeastRecentIn regs class free first
  pub left : (r : Register) → has_register rest r ≡ (not (is_register first r) && has_register free r)
  pub at_first : place ≡ InRegister first
  pub at_second : (p : Place) → second ≡ Some p → (r : Register) × (p ≡ InRegister r) × (oldest ≡ Some r)
  pub found : IfSome oldest (IsLeastRecentIn regs class rest)

module _ (pair : PairFound) where
  open pair use {inst_regs, t, regs, class, free, rest, first, place, second, oldest, allocatable, dedicated_scratch, is_free, chosen, left, at_first}
  open pair use {at_second, found}

  found_lent : (r : Register) → IsLeastRecentIn regs class free r → MayBeScratch inst_regs t class r
  found_lent r f = inr (
    record { of_class = f.of_class; small = f.small; allocatable = ap (λ z. has_register z r) allocatable ∙ f.allocatable },
    is_free r f.free_there,
  )

  second_found : (r : Register) → oldest ≡ Some r → IsLeastRecentIn regs class rest r
  second_found r e = if_some (IsLeastRecentIn regs class rest) oldest r found e

  parts : (r : Register) → oldest ≡ Some r → (not (is_register first r) ≡ true) × (has_register free r ≡ true)
  parts r e = and_parts (not (is_register first r)) (has_register free r) (sym (left r) ∙ (second_found r e).free_there)

  -- either register of the scratch pair may be a scratch register of the class
  pub spare_of : (p : Place) → IsOfScratchPair (record { first = Some place; second = second }) p → IsScratchRegFor inst_regs t class p
  spare_of p (inl e) =
      let same : place ≡ p = cc in (
        first,
        sym same ∙ at_first,
        ⊎_elim (λ own. inl (ap (λ z. slice_index_or z (class_code class) None) dedicated_scratch ∙ own))
            (λ f. found_lent first f) chosen,
      )
  spare_of p (inr e) =
      let x = at_second p e in
      let f = second_found x.0 x.2 in
      (x.0, x.1, found_lent x.0 (record { of_class = f.of_class; small = f.small; allocatable = f.allocatable; free_there = (parts x.0 x.2).1 }))

  -- the two registers of the scratch pair are two places
  pub differ_of : (p q : Place) → Some place ≡ Some p → second ≡ Some q → p ≢ q
  differ_of p q a b e =
      let x = at_second q b in
      let same : place ≡ p = cc in
      let one : InRegister first ≡ InRegister x.0 = sym at_first ∙ same ∙ e ∙ x.1 in
      let r : first ≡ x.0 = cc in
      not_with_itself (is_register first x.0) (parts x.0 x.2).0 (ap (λ z. is_register first z) (sym r) ∙ is_register-same first)

-- slots are full if a second slot would end past the greatest number of units
two_fit : (owners pair vregs count size most start end : ℕ) → count ≤ (owners + pair) * (2 * most) → owners ≤ vregs → start + size < count + 2 * size →
    size ≤ most → end ≡ start + 1 * size + size → end < (vregs + (pair + 2)) * (2 * most) + 1
two_fit owners pair vregs count size most start end room less near small is =
    let a : (owners + pair) * (2 * most) ≤ (vregs + pair) * (2 * most) = mul-le-mul_right (2 * most) (omega (arith, less)) in
    omega (arith, room, a, near, small, is)

-- if a class's next two slots don't both fit, two more temporary slots exhaust the slots
pub short_full : (s : SpillSlotsValue) (class : RegClass) (pair : ScratchPair) → AreNextTempSlots s class pair → HasTooFewSlots pair
    → SlotsExhaustedWith s (s.num_temp_slots + 2)
short_full s class pair next short most upto =
    let owned = next.owned in
    let past = next.short short in
    let near = end_near s.count (units_of s class) (owned.sizes (class_code class) (class_code-lt class)).0 in
    let less : owners s ≤ length s.vreg_spillslots = count_by-le-length (λ p. not (is_no_place p)) s.vreg_spillslots in
    let fits = two_fit (owners s) s.num_temp_slots (length s.vreg_spillslots) s.count (units_of s class) most (next_multiple_of s.count (units_of s class))
    (later_end s class 1) (owned.room most upto) less near (upto (class_code class) (class_code-lt class)) refl in
    omega (arith, past, fits)

-- an end of a resolved move is none, or that of a given one
resolved_from : (given : Moves) (n : Place × Place × Unit {0}) → IsOfMoves given n → (n.0 ≡ NoPlace)
    ⊎ ((m : Place × Place × Unit {0}) × Contains given m × (n.0 ≡ m.0))
resolved_from given n (inl x) = inr (x.1, x.2, x.3)
resolved_from given n (inr x) = ⊎_elim (λ none. inl none) (λ e. inr (x.0, x.1, e)) x.4

resolved_to : (given : Moves) (n : Place × Place × Unit {0}) → IsOfMoves given n → (n.1 ≡ NoPlace)
    ⊎ ((m : Place × Place × Unit {0}) × Contains given m × (n.1 ≡ m.1))
resolved_to given n (inl x) = inl x.0
resolved_to given n (inr x) = inr (x.0, x.1, x.2)

-- a place that isn't a slot below the count is no end of a resolved move
unnamed : (count : ℕ) (given listed : Moves) (p : Place) → AreBetweenSlots count given → All (IsOfMoves given) listed → p ≢ NoPlace →
    (IsSlotBelow count p → ⊥) → IsUnnamed p listed
unnamed count given listed p between of_moves real other k d lt =
    let n = get_or listed k d in
    let o = of_moves k d lt in (
      (λ e. ⊎_elim
          (λ none. real (sym e ∙ none))
          (λ x. other (subst (IsSlotBelow count) (sym x.2 ∙ e) (All-contains (λ m. IsSlotBelow count m.0 × IsSlotBelow count m.1) given x.0 between x.1).0))
          (resolved_from given n o)),
      (λ e. ⊎_elim
          (λ none. real (sym e ∙ none))
          (λ x. other (subst (IsSlotBelow count) (sym x.2 ∙ e) (All-contains (λ m. IsSlotBelow count m.0 × IsSlotBelow count m.1) given x.0 between x.1).1))
          (resolved_to given n o)),
    )

-- a move of a list is one of its ends
ends_contain : (given : Moves) (m : Place × Place × Unit {0}) → Contains given m → Contains (ends_of given) (ends m)
ends_contain given m (k, lt, e) = (
  k,
  (let same : length (ends_of given) ≡ length given = length-map given ends in omega (arith, same, lt)),
  get_or-map ends given k m (ends m) lt
      ∙ ap ends e,
)

ends_from : (given : Moves) (m : Ends) → Contains (ends_of given) m → (n : Place × Place × Unit {0}) × Contains given n × (ends n ≡ m)
ends_from given m (k, lt, e) =
    let here : k < length given = (let same : length (ends_of given) ≡ length given = length-map given ends in omega (arith, same, lt)) in
    let d : Place × Place × Unit {0} = (NoPlace, NoPlace, tt) in
    (get_or given k d, (k, here, get_or_default given k (get_or given k d) d here), sym (get_or-map ends given k d m here) ∙ e)

-- no temporary slot is taken where the slots stay
pub none_taken : (s : SpillSlotsValue) (class : RegClass) → AddsTempSlots s s class 0
none_taken s class = record {
  vreg_spillslots = refl;
  sizes = refl;
  by_last = refl;
  num_temp_slots = omega arith;
  none = λ e. refl;
  some = λ k e. absurd (omega (arith, e));
}

-- ordering no moves gives no moves
pub orders_none : (inst_regs : InstRegs) (class : RegClass) (old : StateValue) (given listed made : Moves) (scratch : Bool) →
    IsResolution given scratch listed → listed ≡ [] → made ≡ listed → OrdersMoves inst_regs class given made old old
orders_none inst_regs class old given listed made scratch is none same = record {
  places = refl;
  edits = refl;
  allocatable = refl;
  fixed_stack = refl;
  dedicated_scratch = refl;
  lrus = refl;
  lends = (0, omega arith, none_taken old.slots class);
  grows = omega arith;
  assigned = λ m c. ap (λ (ms : Moves). in_turn (ends_of ms) own_names m.1) same ∙ is.at_once.assigned (ends m) (ends_contain given m c);
  kept = λ q real other free. ap (λ (ms : Moves). in_turn (ends_of ms) own_names q) same
      ∙ is.at_once.kept q real (λ m c e. let x = ends_from given m c in free x.0 x.1 (ap (λ (y : Ends). y.to) x.2 ∙ e));
  each = subst (λ (ms : Moves). All (IsOrdered inst_regs class given old old) ms) (sym (same ∙ none)) (λ k d lt. absurd (omega arith));
  idle = λ e. (same ∙ none, refl);
}

-- Given slot-to-slot moves of a class, and the scratch resources to make them: a scratch pair of two places, the next
-- temporary slots, and a register that is borrowed.
pub record GivenMoves : Type 0 where
  pub inst_regs : InstRegs
  pub class : RegClass
  pub old : StateValue
  pub l : ScratchPool
  pub given : Moves
  pub apart : RegsAvoidStack old
  pub between : AreBetweenSlots old.slots.count given
  pub scratch_reserve : (p : Place) → IsOfScratchPair l.registers p → IsScratchRegFor inst_regs old class p
  pub differ : DoDiffer l.registers
  pub next : AreNextTempSlots old.slots class l.slots
  pub fixed : l.fixed_stack ≡ old.fixed_stack
  pub borrowed : MayHold old class l.borrowed

-- The result: the tables, with the temporary slots that were taken, two at most; the moves that the resolver lists, and
-- the moves that were made.
pub record MadeMoves (moves : GivenMoves) : Type 0 where
  pub new : StateValue
  pub taken : ℕ
  pub lends : AddsTempSlots moves.old.slots new.slots moves.class taken
  pub few : taken ≤ 2
  pub scratch : Bool
  pub listed : Moves
  pub made : Moves
  pub is : IsResolution moves.given scratch listed
  pub made_so : IsOrderedWith moves.l taken listed made

module _ (moves : GivenMoves) where
  open moves use {inst_regs, class, old, l, given, apart, between, scratch_reserve, differ, next, fixed, borrowed}

  -- a scratch register isn't on the stack
  pair_plain : (r : Register) → MayBeScratch inst_regs old class r → has_register old.fixed_stack r ≡ false
  pair_plain r (inl own) = apart.dedicated_scratch class r own
  pair_plain r (inr free) = apart.allocatable r free.0.allocatable

  -- the scratch pair and the temporary slots are usable for the moves that the resolver lists for the given ones
  pub serves_given : (scratch : Bool) (listed : Moves) → IsResolution given scratch listed → IsUsableFor l listed
  serves_given scratch listed is = record {
    free = λ p a.
        let x = scratch_reserve p a in (
          (λ e. let no : InRegister x.0 ≡ NoPlace = sym x.1 ∙ e in cc),
          unnamed old.slots.count given listed p between is.of_moves (λ e. let no : InRegister x.0 ≡ NoPlace = sym x.1 ∙ e in cc)
              (λ b. let no : InRegister x.0 ≡ InSlot b.0 = sym x.1 ∙ b.1 in cc),
          ap (is_on_stack l.fixed_stack) x.1 ∙ ap (λ z. has_register z x.0) fixed ∙ pair_plain x.0 x.2,
        );
    unused = λ n a.
        let x = next_new old.slots class l.slots next n a in (
          unnamed old.slots.count given listed n between is.of_moves (λ e. let no : InSlot x.0 ≡ NoPlace = sym x.1 ∙ e in cc)
              (λ b. (let same : InSlot x.0 ≡ InSlot b.0 = sym x.1 ∙ b.1 in let e : x.0 ≡ b.0 = cc in let low = b.2 in let high = x.2 in
              omega (arith, e, low, high))),
          (x.0, x.1),
        );
    registers_differ = differ;
    slots_differ = next_differ old.slots class l.slots next;
    slots_in_order = next_in_order old.slots class l.slots next;
    borrowed = ap (λ z. has_register z l.borrowed) fixed ∙ apart.allocatable l.borrowed borrowed.allocatable;
  }

  module _ (result : MadeMoves moves) where
    open result use {new, taken, lends, few, scratch, listed, made, is, made_so}

    in_hand : (p : Place) → IsOfScratchPair l.registers p ⊎ (IsScratchTaken l.slots taken p ⊎ (p ≡ InRegister l.borrowed)) →
        IsScratchUsed inst_regs old new class p
    in_hand p (inl a) = let x = scratch_reserve p a in inl (x.0, x.1, inl x.2)
    in_hand p (inr (inl a)) = inr (taken_below old.slots class l.slots next new.slots taken lends few p a)
    in_hand p (inr (inr e)) = inl (l.borrowed, e, inr borrowed)

    not_lent : (q : Place) → (IsScratchPlace inst_regs old class q → ⊥) → (IsOfScratchPair l.registers q → ⊥) × (IsScratchTaken l.slots taken q → ⊥)
    not_lent q other = (
      (λ a. other (inl (scratch_reserve q a))),
      (λ a. let x = taken_below old.slots class l.slots next new.slots taken lends few q a in other (inr (x.0, x.1, x.2))),
    )

    -- a slot that was there before isn't a temporary one
    old_slot : (q : Place) → IsSlotBelow old.slots.count q → IsScratchPlace inst_regs old class q → ⊥
    old_slot q b (inl s) = let no : InRegister s.0 ≡ InSlot b.0 = sym s.1 ∙ b.1 in cc
    old_slot q b (inr s) = let same : InSlot s.0 ≡ InSlot b.0 = sym s.1 ∙ b.1 in let e : s.0 ≡ b.0 = cc in let low = b.2 in let high = s.2 in
        omega (arith, e, low, high)

    at_q : (q : Place) → q ≢ NoPlace → (IsScratchPlace inst_regs old class q → ⊥) → in_turn (ends_of made) own_names q ≡ in_turn (ends_of listed) own_names q
    at_q q real other = let n = not_lent q other in made_so.same q real n.0 n.1

    -- the ordered moves bring to each target what was at the source of its given move
    pub assigned_all : (m : Place × Place × Unit {0}) → Contains given m → in_turn (ends_of made) own_names m.1 ≡ m.0
    assigned_all m c =
        let b = (All-contains (λ x. IsSlotBelow old.slots.count x.0 × IsSlotBelow old.slots.count x.1) given m between c).1 in
        at_q m.1 (λ e. let no : InSlot b.0 ≡ NoPlace = sym b.1 ∙ e in cc) (old_slot m.1 b) ∙ is.at_once.assigned (ends m) (ends_contain given m c)

    -- the ordered moves leave each place alone that is no target and no scratch place
    pub kept_all : (q : Place) → q ≢ NoPlace → (IsScratchPlace inst_regs old class q → ⊥) → ((m : Place × Place × Unit {0}) → Contains given m → m.1 ≢ q) →
        in_turn (ends_of made) own_names q ≡ q
    kept_all q real other none =
        at_q q real other ∙ is.at_once.kept q real (λ m c e. let x = ends_from given m c in none x.0 x.1 (ap (λ (y : Ends). y.to) x.2 ∙ e))

    -- each ordered move is between places, not both on the stack, each a scratch place or an end of a given move
    pub each_ordered : All (IsOrdered inst_regs class given old new) made
    each_ordered k d lt =
        let x = made_so.each k d lt in
        let m = get_or made k d in
        record {
          between = x.between;
          apart = λ a b. x.apart (sym (ap (λ z. is_on_stack z m.0) fixed ∙ a)) (sym (ap (λ z. is_on_stack z m.1) fixed ∙ b));
          source = ⊎_elim (λ a. inl (in_hand m.0 a)) (λ y. source_of m.0 x.between.0 y.0 y.1 y.2) x.source;
          target = ⊎_elim (λ a. inl (in_hand m.1 a)) (λ y. target_of m.1 x.between.1 y.0 y.1 y.2) x.target;
        }
      where
        source_of : (p : Place) → p ≢ NoPlace → (n : Place × Place × Unit {0}) → Contains listed n → p ≡ n.0 → IsScratchUsed inst_regs old new class p
            ⊎ ((g : Place × Place × Unit {0}) × Contains given g × (p ≡ g.0))
        source_of p real n c e = ⊎_elim (λ none. absurd (real (e ∙ none))) (λ x. inr (x.0, x.1, e ∙ x.2))
            (resolved_from given n (All-contains (IsOfMoves given) listed n is.of_moves c))

        target_of : (p : Place) → p ≢ NoPlace → (n : Place × Place × Unit {0}) → Contains listed n → p ≡ n.1 → IsScratchUsed inst_regs old new class p
            ⊎ ((g : Place × Place × Unit {0}) × Contains given g × (p ≡ g.1))
        target_of p real n c e = ⊎_elim (λ none. absurd (real (e ∙ none))) (λ x. inr (x.0, x.1, e ∙ x.2))
            (resolved_to given n (All-contains (IsOfMoves given) listed n is.of_moves c))

    -- if only temporary slots were added, the moves made are the given ones in an order in which they can be run
    pub orders : new.places ≡ old.places → new.edits ≡ old.edits → new.allocatable ≡ old.allocatable → new.fixed_stack ≡ old.fixed_stack →
        new.dedicated_scratch ≡ old.dedicated_scratch → new.lrus ≡ old.lrus → (given ≡ [] → ⊥) →
        OrdersMoves inst_regs class given made old new
    orders places edits allocatable fixed_stack dedicated_scratch lrus some = record {
      places = places;
      edits = edits;
      allocatable = allocatable;
      fixed_stack = fixed_stack;
      dedicated_scratch = dedicated_scratch;
      lrus = lrus;
      lends = (taken, few, lends);
      grows = lends_grows old.slots class l.slots next new.slots taken lends few;
      assigned = assigned_all;
      kept = kept_all;
      each = each_ordered;
      idle = λ none. absurd (some none);
    }
