-- The LRU list of each class.
use Rattle.regalloc2_parts.proofs.RegisterLaws.{class_codes}
use Rattle.std.proofs.Common.{ℕ, ◌≡◌, ◌≢◌, ◌<◌, Bool, true, false, List, [], length, arith, refl, sym, ap, ◌∙◌, ⊎_elim, subst, slice_index_or, set}
use Rattle.std.proofs.Common.{get_or-set_same}
use Rattle.std.specs.Prelude.{All, Option, None, Some, IfSome, IfNone, IsTrue, Contains, ◌↔◌}
use Rattle.std.proofs.lemmas.List.{get_or-set_other}
use Rattle.std.proofs.Math.ListN.{length-set}
use Rattle.std.proofs.lemmas.Bool.{cases_eq}
use Rattle.regalloc2_names.specs.declared.RegClass.{RegClass}
use Rattle.regalloc2_names.specs.declared.sets.PRegSet.{PRegSet}
use Rattle.regalloc2_names.specs.Register.{Register, class_code, has_register}
use Rattle.regalloc2_fastalloc_state.specs.StateParts.{AllocatableRegsValue, AreLrus, IsLeastRecentIn, NoneIsFrom, NoneIsIn, lru_of}

-- a register found in the LRU of its class, which is also in a set of available ones, is allocatable and available
pub found_in : (t : AllocatableRegsValue) (class : RegClass) (free : PRegSet) (result : Option Register) → AreLrus t.allocatable t.lrus
    → IfSome result (λ r. Contains (lru_of t class) r) → IfSome result (λ r. IsTrue (has_register free r)) → IfSome result (λ r. IsLeastRecentIn t class free r)
found_in t class free None lrus member free_there = tt
found_in t class free (Some r) lrus member free_there =
    record {
      of_class = (lrus.of_class class r member).0;
      small = (lrus.of_class class r member).1;
      allocatable = lrus.has class r member;
      free_there = free_there;
    }

-- a register found in the LRU of its class is one of the class that may be allocated
pub member_in : (t : AllocatableRegsValue) (class : RegClass) (result : Option Register) → AreLrus t.allocatable t.lrus
    → IfSome result (λ r. Contains (lru_of t class) r) → IfSome result (λ r. (r.class ≡ class) × (r.number < 64) × (has_register t.allocatable r ≡ true))
member_in t class None lrus member = tt
member_in t class (Some r) lrus member = ((lrus.of_class class r member).0, (lrus.of_class class r member).1, lrus.has class r member)

-- a class whose LRU is empty has no register that may be allocated
pub none_in : (t : AllocatableRegsValue) (class : RegClass) (result : Option Register) → AreLrus t.allocatable t.lrus
    → IfNone result (lru_of t class ≡ []) → IfNone result (NoneIsFrom t.allocatable class 0)
none_in t class (Some r) lrus none = tt
none_in t class None lrus none = λ r same low small. by_test (has_register t.allocatable r) r refl same small
  where
    by_test : (b : Bool) (r : Register) → has_register t.allocatable r ≡ b → r.class ≡ class → r.number < 64 → b ≡ false
    by_test false r e same small = refl
    by_test true r e same small =
        let there : Contains (lru_of t r.class) r = lrus.all r small e in
        let here : Contains [] r = subst (λ (l : List Register). Contains l r) (ap (λ (k : RegClass). lru_of t k) same ∙ none) there in
        absurd (omega (arith, here.1))

-- where no member of a class's LRU is in a set, no register of the class that may be allocated is
pub none_free : (t : AllocatableRegsValue) (class : RegClass) (free : PRegSet) (result : Option Register) → AreLrus t.allocatable t.lrus
    → IfNone result (All (λ r. has_register free r ≡ false) (lru_of t class)) → IfNone result (NoneIsIn t class free)
none_free t class free (Some r) lrus none = tt
none_free t class free None lrus none = λ r small same has.
    let here : Contains (lru_of t class) r = subst (λ (k : RegClass). Contains (lru_of t k) r) same (lrus.all r small has) in
    subst (λ (x : Register). has_register free x ≡ false) here.2 (none here.0 r here.1)

-- an LRU list is replaced by one with the same members
pub rings_kept : (allocatable : PRegSet) (lrus : List (List Register)) (i : ℕ) (ring : List Register) → i < length lrus
    → ((r : Register) → Contains ring r ↔ Contains (slice_index_or lrus i []) r)
    → AreLrus allocatable lrus → AreLrus allocatable (set lrus i ring)
rings_kept allocatable lrus i ring lt same old = record {
  three = length-set lrus i ring ∙ old.three;
  of_class = λ c r h. old.of_class c r (before c r h);
  has = λ c r h. old.has c r (before c r h);
  all = λ r small h. after r (old.all r small h);
}
  where
    before : (c : RegClass) (r : Register) → Contains (slice_index_or (set lrus i ring) (class_code c) []) r →
        Contains (slice_index_or lrus (class_code c) []) r
    before c r h = ⊎_elim
        (λ (e : class_code c ≡ i). subst (λ (k : ℕ). Contains (slice_index_or lrus k []) r) (sym e)
        ((same r).0 (subst (λ (l : List Register). Contains l r) (get_or-set_same lrus i ring [] lt)
        (subst (λ (k : ℕ). Contains (slice_index_or (set lrus i ring) k []) r) e h))))
        (λ (d : class_code c ≢ i). subst (λ (l : List Register). Contains l r) (get_or-set_other lrus i (class_code c) ring [] d) h)
        (cases_eq (class_code c) i)

    after : (r : Register) → Contains (slice_index_or lrus (class_code r.class) []) r → Contains (slice_index_or (set lrus i ring) (class_code r.class) []) r
    after r h = ⊎_elim
        (λ (e : class_code r.class ≡ i). subst (λ (k : ℕ). Contains (slice_index_or (set lrus i ring) k []) r) (sym e)
        (subst (λ (l : List Register). Contains l r) (sym (get_or-set_same lrus i ring [] lt))
        ((same r).1 (subst (λ (k : ℕ). Contains (slice_index_or lrus k []) r) e h))))
        (λ (d : class_code r.class ≢ i). subst (λ (l : List Register). Contains l r) (sym (get_or-set_other lrus i (class_code r.class) ring [] d)) h)
        (cases_eq (class_code r.class) i)

-- a class's LRU list, where it or another one is replaced
pub ring_replaced : (lrus : List (List Register)) (i : ℕ) (ring : List Register) (c : RegClass) → i < length lrus → i ≡ class_code c →
    slice_index_or (set lrus i ring) (class_code c) [] ≡ ring
ring_replaced lrus i ring c lt e = subst (λ (k : ℕ). slice_index_or (set lrus i ring) k [] ≡ ring) e (get_or-set_same lrus i ring [] lt)

code_other : (a b : RegClass) → a ≢ b → class_code a ≢ class_code b
code_other a b ne e = ne (class_codes a b e)

-- replacing the LRU list of one class leaves the lists of the other classes
pub other_ring : (lrus : List (List Register)) (i : ℕ) (ring : List Register) (c d : RegClass) → i ≡ class_code c → d ≢ c →
    slice_index_or (set lrus i ring) (class_code d) [] ≡ slice_index_or lrus (class_code d) []
other_ring lrus i ring c d e ne = get_or-set_other lrus i (class_code d) ring [] (λ same. code_other d c ne (same ∙ e))
