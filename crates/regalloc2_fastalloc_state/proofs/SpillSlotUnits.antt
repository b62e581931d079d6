-- How many units slots take.
use Rattle.std.proofs.Common.{ℕ, ◌≡◌, ◌≢◌, inl, inr, ◌+◌, ◌-◌, ◌*◌, ◌<◌, ◌≤◌, Bool, true, false, cond, List, length, refl, sym, ap, ◌∙◌, subst, arith}
use Rattle.std.specs.Prelude.{IsTrue, if◌then◌else◌, not, set, slice_index, slice_index_or}
use Rattle.std.specs.Int.{next_multiple_of}
use Rattle.std.specs.List.{count_by}
use Rattle.std.proofs.Math.Nat.{mul-le-mul_right}
use Rattle.std.proofs.lemmas.Bool.{cases_eq, false≢true}
use Rattle.std.proofs.lemmas.List.{get_or_read, get_or-set_same, get_or-set_other, length-set}
use Rattle.std.proofs.lemmas.List.Sums.{sum_by-set, count_by-le-length}
use Rattle.regalloc2_names.specs.declared.RegAllocError.{RegAllocError}
use Rattle.regalloc2_names.specs.declared.RegAllocError.TheVariants.{TooManyLiveRegs, TooManySpillSlots}
use Rattle.regalloc2_names.specs.declared.RegClass.{RegClass}
use Rattle.regalloc2_names.specs.Register.{VirtualRegister, class_code}
use Rattle.regalloc2_names.specs.Place.{Place, NoPlace, InSlot, is_no_place}
use Rattle.regalloc2_parts.specs.declared.moves.MoveFault.{MoveFault}
use Rattle.regalloc2_parts.specs.declared.moves.MoveFault.TheVariants.{NoSlot, Memory as MemoryFault}
use Rattle.regalloc2_parts.specs.ScratchPool.{error_of}
use Rattle.regalloc2_fastalloc_state.specs.StateParts.{SpillSlotsValue, SlotsHaveOneOwner, GetsSpillSlot, AreUpTo, IsSlotOrNone, later_end, owners, slot_name}
use Rattle.regalloc2_fastalloc_state.specs.StateParts.{most_units}
use Rattle.regalloc2_fastalloc_state.specs.OutOfResources.{IsResourceError, LacksSlots, SlotsExhausted}
use Rattle.regalloc2_carry.proofs.Forms.{NoPlace-from_failed_test}
use Rattle.regalloc2_carry.proofs.Plain.{end_near}
use Rattle.regalloc2_fastalloc_state.proofs.SlotsAsPlaces.{slot_grows}

-- one more element passes the test
counted_more : {X : Type 0} (p : X → Bool) (xs : List X) (k : ℕ) (y d : X) → k < length xs → p (slice_index_or xs k d) ≡ false → p y ≡ true →
    count_by p (set xs k y) ≡ count_by p xs + 1
counted_more p xs k y d lt fails passes =
    let s : count_by p (set xs k y) + cond (p (slice_index_or xs k d)) 1 0 ≡ count_by p xs + cond (p y) 1 0 = sum_by-set (λ x. cond (p x) 1 0) xs k y d lt in
    let weight : Bool → ℕ = λ b. cond b 1 0 in
    let a : weight (p (slice_index_or xs k d)) ≡ 0 = ap weight fails in
    let b : weight (p y) ≡ 1 = ap weight passes in
    omega (arith, s, a, b)

-- one more vreg has a slot
owners_more : (s : SpillSlotsValue) (n k : ℕ) → n < length s.vreg_spillslots → slot_name s n ≡ NoPlace →
    count_by (λ p. not (is_no_place p)) (set s.vreg_spillslots n (InSlot k)) ≡ owners s + 1
owners_more s n k lt none = counted_more (λ p. not (is_no_place p)) s.vreg_spillslots n (InSlot k) NoPlace lt
    (ap (λ (p : Place). not (is_no_place p)) none) refl

-- a vreg without a slot isn't counted
owners_less : (s : SpillSlotsValue) (n : ℕ) → n < length s.vreg_spillslots → slot_name s n ≡ NoPlace → owners s < length s.vreg_spillslots
owners_less s n lt none =
    let m = owners_more s n 0 lt none in
    let l : count_by (λ p. not (is_no_place p)) (set s.vreg_spillslots n (InSlot 0)) ≤ length (set s.vreg_spillslots n (InSlot 0)) = count_by-le-length
    (λ p. not (is_no_place p)) (set s.vreg_spillslots n (InSlot 0)) in
    let same : length (set s.vreg_spillslots n (InSlot 0)) ≡ length s.vreg_spillslots = length-set s.vreg_spillslots n (InSlot 0) in
    omega (arith, m, l, same)

-- there is room for one more slot
one_more_fits : (k count end size most : ℕ) → count ≤ k * (2 * most) → end < count + 2 * size → size ≤ most → end < (k + 1) * (2 * most)
one_more_fits k count end size most h e s = omega (arith, h, e, s)

fewer_fit : (k n most : ℕ) → k ≤ n → k * (2 * most) ≤ n * (2 * most)
fewer_fit k n most h = mul-le-mul_right (2 * most) h

-- a vreg whose place was read, and is none
pub no_slot_yet : (items : List Place) (n : ℕ) (p : Place) (b : Bool) → n < length items → p ≡ slice_index_or items n p → (is_no_place p ≡ false → IsTrue b) →
    b ≡ false → slice_index_or items n NoPlace ≡ NoPlace
no_slot_yet items n p b lt reads h f = sym (get_or_read items n p lt reads NoPlace) ∙ NoPlace-from_failed_test p b h f

-- a vreg keeps the slot that it has
pub slot_kept : (s : SpillSlotsValue) (v : VirtualRegister) (n : ℕ) (p : Place) → SlotsHaveOneOwner s → n ≡ v.number → n < length s.vreg_spillslots →
    p ≡ slice_index_or s.vreg_spillslots n p → is_no_place p ≡ false → GetsSpillSlot s s v p
slot_kept s v n p owned e lt reads some =
    let is : slot_name s v.number ≡ p = ap (slot_name s) (sym e) ∙ sym (get_or_read s.vreg_spillslots n p lt reads NoPlace) in
    let there : p ≢ NoPlace = λ h. false≢true (sym some ∙ ap is_no_place h) in
    record {
      long = refl;
      sizes = refl;
      by_last = refl;
      grows = omega arith;
      gives = is;
      there = there;
      below = subst (IsSlotOrNone s.count) is (owned.below v.number);
      others = λ m d. refl;
      had = λ h. (sym is, refl);
      made = λ h. absurd (there (sym is ∙ h));
    }

-- a vreg without a slot gets one
pub slot_made : (s t : SpillSlotsValue) (v : VirtualRegister) (code n start end k : ℕ) (p : Place) → s ≡ t → n ≡ v.number → code ≡ class_code v.class →
    n < length s.vreg_spillslots → slot_name s n ≡ NoPlace → start ≡ next_multiple_of s.count (slice_index s.sizes code) →
    end ≡ next_multiple_of s.count (slice_index s.sizes code) + slice_index s.sizes code →
    k ≡ (if s.by_last then start + slice_index s.sizes code - 1 else start) → k < start + slice_index s.sizes code → p ≡ InSlot k
    → GetsSpillSlot t (record {
      vreg_spillslots = set s.vreg_spillslots n p;
      count = end;
      num_temp_slots = s.num_temp_slots;
      sizes = s.sizes;
      by_last = s.by_last;
    }) v p
slot_made s t v code n start end k p same e c lt none begins ends named high is =
    let size : ℕ → ℕ = λ i. slice_index s.sizes i in
    let at : ℕ → ℕ → ℕ = λ first units. if s.by_last then first + units - 1 else first in
    let made : SpillSlotsValue = record {
      vreg_spillslots = set s.vreg_spillslots n p;
      count = end;
      num_temp_slots = s.num_temp_slots;
      sizes = s.sizes;
      by_last = s.by_last;
    } in
    subst (λ (o : SpillSlotsValue). GetsSpillSlot o made v p) same (record {
      long = length-set s.vreg_spillslots n p;
      sizes = refl;
      by_last = refl;
      grows = omega (arith, ends);
      gives = ap (λ m. slice_index_or (set s.vreg_spillslots n p) m NoPlace) (sym e) ∙ get_or-set_same s.vreg_spillslots n p NoPlace lt;
      there = λ h. false≢true (ap is_no_place (sym is ∙ h));
      below = subst (IsSlotOrNone end) (sym is) (omega (arith, high, begins, ends));
      others = λ m d. get_or-set_other s.vreg_spillslots n m p NoPlace (λ h. d (h ∙ e));
      had = λ h. absurd (h (ap (slot_name s) (sym e) ∙ none));
      made = λ h. (
        is ∙ ap InSlot (named ∙ ap (λ first. at first (size code)) begins ∙ ap (λ i. at (next_multiple_of s.count (size i)) (size i)) c),
        ends ∙ ap (λ i. next_multiple_of s.count (size i) + size i) c,
      );
    })

module _ (s : SpillSlotsValue) (code n start : ℕ) (owned : SlotsHaveOneOwner s) (three : code < 3) (lt : n < length s.vreg_spillslots)
    (none : slot_name s n ≡ NoPlace) (begins : start ≡ next_multiple_of s.count (slice_index s.sizes code)) where
  -- where a new slot ends there is room, if each vreg has as much
  ends_within : (most : ℕ) → AreUpTo most s.sizes → start + slice_index s.sizes code < (owners s + s.num_temp_slots + 1) * (2 * most)
  ends_within most upto =
      let size : ℕ = slice_index s.sizes code in
      let near = end_near s.count size (owned.sizes code three).0 in
      one_more_fits (owners s + s.num_temp_slots) s.count (start + size) size most (owned.room most upto) (omega (arith, near, begins)) (upto code three)

  -- slots are full where one more would end past the greatest number of units
  pub full_slots : most_units < start + slice_index s.sizes code → SlotsExhausted s
  full_slots past most upto =
      let within = ends_within most upto in
      let less = owners_less s n lt none in
      let all : (owners s + s.num_temp_slots + 1) * (2 * most) ≤ (length s.vreg_spillslots + s.num_temp_slots) * (2 * most) = fewer_fit
      (owners s + s.num_temp_slots + 1) (length s.vreg_spillslots + s.num_temp_slots) most (omega (arith, less)) in
      omega (arith, past, within, all)

  -- a slot is made, with a name between its start and its end
  pub owned_more : (k : ℕ) → start + slice_index s.sizes code ≤ most_units → start ≤ k → k < start + slice_index s.sizes code
      → SlotsHaveOneOwner (record {
        vreg_spillslots = set s.vreg_spillslots n (InSlot k);
        count = start + slice_index s.sizes code;
        num_temp_slots = s.num_temp_slots;
        sizes = s.sizes;
        by_last = s.by_last;
      })
  owned_more k limit low high = record {
    three = owned.three;
    sizes = owned.sizes;
    few = limit;
    below = λ m. elim (cases_eq m n) [
      | inl e ↦ subst (IsSlotOrNone end) (sym (ap name e ∙ here)) high
      | inr d ↦ subst (IsSlotOrNone end) (sym (other m d)) (slot_grows s.count end (slot_name s m) past (owned.below m))
    ];
    own = λ l m j f h. elim (cases_eq l n) [
      | inl a ↦ elim (cases_eq m n) [
        | inl b ↦ a ∙ sym b
        | inr b ↦ absurd (apart m b (sym (ap name a ∙ here) ∙ f) h)
      ]
      | inr a ↦ elim (cases_eq m n) [
        | inl b ↦ absurd (apart l a (sym (ap name b ∙ here) ∙ h) f)
        | inr b ↦ owned.own l m j (sym (other l a) ∙ f) (sym (other m b) ∙ h)
      ]
    ];
    room = λ most upto.
        let within : end < (owners s + 1 + s.num_temp_slots) * (2 * most) = subst (λ (x : ℕ). end < x * (2 * most)) (omega arith) (ends_within most upto) in
        let fits : end < (count_by (λ p. not (is_no_place p)) (set s.vreg_spillslots n (InSlot k)) + s.num_temp_slots) *
        (2 * most) = subst (λ (x : ℕ). end < (x + s.num_temp_slots) * (2 * most)) (sym (owners_more s n k lt none)) within in
        omega (arith, fits);
    some = (let h = owned.some in omega (arith, past, h));
  }
    where
      end : ℕ
      end = start + slice_index s.sizes code

      name : ℕ → Place
      name m = slice_index_or (set s.vreg_spillslots n (InSlot k)) m NoPlace

      here : name n ≡ InSlot k
      here = get_or-set_same s.vreg_spillslots n (InSlot k) NoPlace lt

      other : (m : ℕ) → m ≢ n → name m ≡ slot_name s m
      other m d = get_or-set_other s.vreg_spillslots n m (InSlot k) NoPlace d

      past : s.count ≤ end
      past = omega (arith, begins)

      -- the names of other slots are lower
      apart : (m : ℕ) → m ≢ n → {j : ℕ} → InSlot k ≡ InSlot j → name m ≡ InSlot j → ⊥
      apart m d {j} e f =
          let same : k ≡ j = cc in
          let lower : j < s.count = subst (IsSlotOrNone s.count) (sym (other m d) ∙ f) (owned.below m) in
          omega (arith, begins, low, lower, same)

-- temporary slots have room, one or two
one_temp_slot_fits : (owned num_temp_slots count size most start end : ℕ) → count ≤ (owned + num_temp_slots) * (2 * most) → start + size < count + 2 * size →
    size ≤ most → end ≡ start + 1 * size → end ≤ (owned + (num_temp_slots + 1)) * (2 * most)
one_temp_slot_fits owned num_temp_slots count size most start end room near small is = omega (arith, room, near, small, is)

two_temp_slots_fit : (owned num_temp_slots count size most start end : ℕ) → count ≤ (owned + num_temp_slots) * (2 * most) → start + size < count + 2 * size →
    size ≤ most → end ≡ start + 2 * size → end ≤ (owned + (num_temp_slots + 2)) * (2 * most)
two_temp_slots_fit owned num_temp_slots count size most start end room near small is = omega (arith, room, near, small, is)

-- a number from one to two is one or two
by_taken : (P : ℕ → Type 0) → P 1 → P 2 → (taken : ℕ) → 1 ≤ taken → taken ≤ 2 → P taken
by_taken P one two taken some few = elim (cases_eq taken 1) [
  | inl e ↦ subst P (sym e) one
  | inr ne ↦ (let e : 2 ≡ taken = omega (arith, ne, some, few) in subst P e two)
]

module _ (s : SpillSlotsValue) (code : ℕ) (owned : SlotsHaveOneOwner s) (three : code < 3) where
  -- where `taken` temporary slots end
  lent_room : (taken : ℕ) → 1 ≤ taken → taken ≤ 2 → (most : ℕ) → AreUpTo most s.sizes → (end : ℕ) →
      end ≡ next_multiple_of s.count (slice_index s.sizes code) + taken * slice_index s.sizes code → end ≤ (owners s + (s.num_temp_slots + taken)) * (2 * most)
  lent_room taken some few most upto =
      let size : ℕ = slice_index s.sizes code in
      let start : ℕ = next_multiple_of s.count size in
      let near = end_near s.count size (owned.sizes code three).0 in
      by_taken (λ t. (end : ℕ) → end ≡ start + t * size → end ≤ (owners s + (s.num_temp_slots + t)) * (2 * most))
      (λ end is. one_temp_slot_fits (owners s) s.num_temp_slots s.count size most start end (owned.room most upto) near (upto code three) is)
      (λ end is. two_temp_slots_fit (owners s) s.num_temp_slots s.count size most start end (owned.room most upto) near (upto code three) is)
      taken some few

  lent_past : (taken : ℕ) → 1 ≤ taken → taken ≤ 2 → (end : ℕ) → end ≡ next_multiple_of s.count (slice_index s.sizes code) + taken * slice_index s.sizes code →
      s.count + taken ≤ end
  lent_past taken some few =
      let size : ℕ = slice_index s.sizes code in
      let start : ℕ = next_multiple_of s.count size in
      let least = (owned.sizes code three).0 in
      by_taken (λ t. (end : ℕ) → end ≡ start + t * size → s.count + t ≤ end) (λ end is. omega (arith, is, least)) (λ end is. omega (arith, is, least)) taken
      some few

  -- temporary slots are added
  pub owned_lent : (taken end : ℕ) → 1 ≤ taken → taken ≤ 2 → end ≡ next_multiple_of s.count (slice_index s.sizes code) + taken * slice_index s.sizes code →
      end ≤ most_units
      → SlotsHaveOneOwner (record {
        vreg_spillslots = s.vreg_spillslots;
        count = end;
        num_temp_slots = s.num_temp_slots +
            taken;
        sizes = s.sizes;
        by_last = s.by_last;
      })
  owned_lent taken end some few is limit =
      let past : s.count + taken ≤ end = lent_past taken some few end is in
      record {
        three = owned.three;
        sizes = owned.sizes;
        few = limit;
        below = λ n. slot_grows s.count end (slot_name s n) (omega (arith, past)) (owned.below n);
        own = owned.own;
        room = λ most upto. lent_room taken some few most upto end is;
        some = (let h = owned.some in omega (arith, past, h));
      }

-- temporary slots end within the greatest number of units
pub temp_slots_within_limit : (s t : SpillSlotsValue) (class : RegClass) (code taken : ℕ) → s ≡ t → code ≡ class_code class → 1 ≤ taken →
    ((k : ℕ) → taken ≡ k + 1 → later_end t class k ≤ most_units)
    → next_multiple_of s.count (slice_index s.sizes code) + taken * slice_index s.sizes code ≤ most_units
temp_slots_within_limit s t class code taken e c some room =
    let k : ℕ = taken - 1 in
    let u : ℕ = slice_index s.sizes (class_code class) in
    let one_more : taken ≡ k + 1 = omega (arith, some) in
    let all : taken * u ≡ k * u + u = ap (λ (n : ℕ). n * u) one_more ∙ omega arith in
    let fits : later_end s class k ≤ most_units = subst (λ (x : SpillSlotsValue). later_end x class k ≤ most_units) (sym e) (room k one_more) in
    subst (λ (z : ℕ). next_multiple_of s.count (slice_index s.sizes z) + taken * slice_index s.sizes z ≤ most_units) (sym c) (omega (arith, all, fits))

-- what is lacking, where the slots are full only if more holds
pub resource_error_weaken : (P Q : Type 0) → (P → Q) → (e : RegAllocError) → IsResourceError P e → IsResourceError Q e
resource_error_weaken P Q more TooManySpillSlots h = more h
resource_error_weaken P Q more e h = h

-- an error of moves is an error for slots or memory
pub slots_of_fault : (P : Type 0) (fault : MoveFault) → (fault ≡ NoSlot → P) → LacksSlots P (error_of fault)
slots_of_fault P NoSlot h = h refl
slots_of_fault P MemoryFault h = tt

-- an error for slots or memory alone is one for registers, slots or memory, also under a weaker claim that slots ran
-- out
pub lacks_slots : (P Q : Type 0) → (P → Q) → (e : RegAllocError) → LacksSlots P e → IsResourceError Q e
lacks_slots P Q more TooManyLiveRegs h = tt
lacks_slots P Q more TooManySpillSlots h = more h
lacks_slots P Q more e h = h

-- an error for slots or memory alone is not `TooManyLiveRegs`
pub no_register : (P : Type 0) (e : RegAllocError) → LacksSlots P e → e ≡ TooManyLiveRegs → ⊥
no_register P e h same = subst (LacksSlots P) same h
