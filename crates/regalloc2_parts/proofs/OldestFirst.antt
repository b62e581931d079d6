-- A walk over a ring's registers from the least to the most recently used.
use Rattle.std.proofs.Common.{ℕ, zero, suc, ◌≡◌, ◌≢◌, ◌+◌, ◌-◌, ◌<◌, ◌≤◌, ◌∙◌, refl, arith, sym, ap}
use Rattle.std.proofs.Common.{subst, List, [], ◌∷◌, ◌++◌, Bool, true, false, cond, length, slice_index_or, append_assoc, inl, inr}
use Rattle.std.specs.Prelude.{All, Contains, ◌⊎◌, MatchOption, IfNone, IfSome, IsTrue, Option, None, Some, find, map, reverse, slice_get, slice_index}
use Rattle.std.specs.Iterator.{YieldsFirst}
use Rattle.std.specs.List.{AllWithin}
use Rattle.std.proofs.lemmas.Bool.{cases_eq}
use Rattle.std.proofs.lemmas.List.{append-nil, get_or_at, length-append, map-append, reverse-append, reverse-reverse, length-map}
use Rattle.std.proofs.lemmas.List.Elements.{All-cons}
use Rattle.std.proofs.lemmas.List.Sorted.{All-permutation, Contains-permutation, IsPermutation-reverse, IsPermutation-sym}
use Rattle.regalloc2_names.specs.declared.RegClass.{RegClass}
use Rattle.regalloc2_names.specs.Register.{Register}
use Rattle.regalloc2_parts.specs.declared.lru.nodes.LruNode.{LruNode}
use Rattle.regalloc2_parts.specs.Links.{IsWalk, walked_links}
use Rattle.regalloc2_parts.specs.Ring.{IsOldestAccepted}
use Rattle.regalloc2_parts.specs.RingNodes.{IsLeft, IsNodeRing, left_of, named, lru_nexts, others, lru_prevs, ring_numbers}
use Rattle.regalloc2_parts.proofs.LinkRings.{IsRing-back, step, walked-end, walked-is}
use Rattle.regalloc2_parts.proofs.RingLinks.{prev_at}
use Rattle.regalloc2_parts.proofs.RingRegisters.{last_of_reverse}

reverse_map : (class : RegClass) (ns : List ℕ) → map (named class) (reverse ns) ≡ reverse (map (named class) ns)
reverse_map class [] = refl
reverse_map class (n ∷ ns) =
    ap (λ l. map (named class) l) (reverse-append (n ∷ []) ns) ∙ map-append (named class) (reverse ns) (n ∷ [])
    ∙ ap (λ l. l ++ named class n ∷ []) (reverse_map class ns) ∙ sym (reverse-append (named class n ∷ []) (map (named class) ns))

-- where it begins
pub record Begins (nodes : List LruNode) (h at : ℕ) (class : RegClass) : Type 0 where
  pub left : left_of nodes h class (Some at) ≡ reverse (map (named class) (ring_numbers nodes h))
  pub proper : IsLeft nodes h (Some at)

-- from the one before the head on, a walk backward passes all registers of the ring, the least recently used first
pub begins : (nodes : List LruNode) (h at : ℕ) (class : RegClass) → length nodes ≤ 64 → IsNodeRing nodes h → slice_index (lru_prevs nodes) h ≡ at →
    Begins nodes h at class
begins nodes h at class few ring e =
    let back = IsRing-back (lru_nexts nodes) (lru_prevs nodes) h (others nodes h) ring in
    let there : IsWalk (lru_prevs nodes) h at (reverse (others nodes h)) = subst (λ i. IsWalk (lru_prevs nodes) h i (reverse (others nodes h))) e back in
    let same : walked_links (lru_prevs nodes) h at ≡ reverse (others nodes h) = walked-is (lru_prevs nodes) h at (reverse (others nodes h)) there in
    let fits : h < length nodes = rw (length-map nodes (λ (n : LruNode). n.next)) at ring.below.0 in
    record {
      left = ap (λ l. map (named class) (l ++ h ∷ [])) same ∙ map-append (named class) (reverse (others nodes h)) (h ∷ [])
          ∙ ap (λ l. l ++ named class h ∷ []) (reverse_map class (others nodes h))
          ∙ sym (reverse-append (named class h ∷ []) (map (named class) (others nodes h)));
      proper = record { few = few; walk = (fits, subst (λ l. IsWalk (lru_prevs nodes) h at l) (sym same) there) };
    }

-- one step
pub record Steps (nodes : List LruNode) (h at : ℕ) (next : Option ℕ) (class : RegClass) : Type 0 where
  pub left : left_of nodes h class (Some at) ≡ named class at ∷ left_of nodes h class next
  pub proper : IsLeft nodes h next

-- a walk that isn't at the head passes a register and goes on to the one before
pub steps : (nodes : List LruNode) (h at : ℕ) (d : LruNode) (class : RegClass) → IsLeft nodes h (Some at) → at ≢ h →
    Steps nodes h at (Some (slice_index_or nodes at d).prev) class
steps nodes h at d class left other =
    let s = step (lru_prevs nodes) h at left.walk.1 other in
    let fits : at < length nodes = rw (length-map nodes (λ (n : LruNode). n.prev)) at s.below in
    let e : slice_index (lru_prevs nodes) at ≡ (slice_index_or nodes at d).prev = prev_at nodes at d fits in
    record {
      left = rw (s.first, e) refl;
      proper = record { few = left.few; walk = (left.walk.0, subst (λ i. IsWalk (lru_prevs nodes) h i (walked_links (lru_prevs nodes) h i)) e s.rest) };
    }

-- at the head it passes the head's register, and nothing is left
pub last_step : (nodes : List LruNode) (h at : ℕ) (class : RegClass) → IsLeft nodes h (Some at) → at ≡ h → Steps nodes h at None class
last_step nodes h at class left e = record {
  left = rw (walked-end (lru_prevs nodes) h at e) (ap (λ i. named class i ∷ []) (sym e));
  proper = record { few = left.few; walk = tt };
}

-- the number that a walk is at is a node's
pub at_node : (nodes : List LruNode) (h at : ℕ) → IsLeft nodes h (Some at) → at < length nodes
at_node nodes h at left = by_place (cases_eq at h)
  where
    by_place : (at ≡ h) ⊎ (at ≢ h) → at < length nodes
    by_place (inl e) = rw e left.walk.0
    by_place (inr other) = rw (length-map nodes (λ (n : LruNode). n.prev)) at (step (lru_prevs nodes) h at left.walk.1 other).below

-- what is found along it
found : (test : Register → Bool) (ys : List Register) (res : Option Register) → res ≡ find test ys →
    MatchOption res (All (λ r. test r ≡ false) ys) (λ r. (test r ≡ true) × Contains ys r)
found test [] None e = λ k d less. absurd (omega arith)
found test [] (Some r) e = absurd cc
found test (y ∷ ys) res e = by_test (test y) refl res e (λ f. found test ys None f) (λ r f. found test ys (Some r) f)
  where
    by_test : (b : Bool) → test y ≡ b → (res : Option Register) → res ≡ cond b (Some y) (find test ys) →
        (None ≡ find test ys → All (λ r. test r ≡ false) ys) → ((r : Register) → Some r ≡ find test ys → (test r ≡ true) × Contains ys r) →
        MatchOption res (All (λ r. test r ≡ false) (y ∷ ys)) (λ r. (test r ≡ true) × Contains (y ∷ ys) r)
    by_test true t None f none some = absurd cc
    by_test true t (Some r) f none some = let s : y ≡ r = cc in (ap test (sym s) ∙ t, (0, omega arith, s))
    by_test false t None f none some = All-cons (λ (r : Register). test r ≡ false) y ys t (none f)
    by_test false t (Some r) f none some = let h = some r f in (h.0, (suc h.1.0, omega (arith, h.1.1), h.1.2))

-- the first that passes a test, from the ring's end, is in the ring; where there is none, no register of the ring passes it
pub found_last : (test : Register → Bool) (ring : List Register) (res : Option Register) → res ≡ find test (reverse ring) →
    MatchOption res (All (λ r. test r ≡ false) ring) (λ r. (test r ≡ true) × Contains ring r)
found_last test ring None e =
    All-permutation (λ (r : Register). test r ≡ false) (reverse ring) ring (IsPermutation-sym ring (reverse ring) (IsPermutation-reverse ring))
    (found test (reverse ring) None e)
found_last test ring (Some r) e =
    let h = found test (reverse ring) (Some r) e in
    (h.0, Contains-permutation (reverse ring) ring r (IsPermutation-sym ring (reverse ring) (IsPermutation-reverse ring)) h.1)

-- a register that is found is in the ring
pub if_found : (test : Register → Bool) (ring : List Register) (res : Option Register) → res ≡ find test (reverse ring) → IfSome res (λ r. Contains ring r)
if_found test ring None e = tt
if_found test ring (Some r) e = (found_last test ring (Some r) e).1

-- what is found passes the test
pub if_passes : (test : Register → Bool) (ring : List Register) (res : Option Register) → res ≡ find test (reverse ring) → IfSome res (λ r. IsTrue (test r))
if_passes test ring None e = tt
if_passes test ring (Some r) e = (found_last test ring (Some r) e).0

-- where none is found, no register of the ring passes the test
pub if_none : (test : Register → Bool) (ring : List Register) (res : Option Register) → res ≡ find test (reverse ring) →
    IfNone res (All (λ r. test r ≡ false) ring)
if_none test ring None e = found_last test ring None e
if_none test ring (Some r) e = tt

-- where nothing comes, the ring is empty
pub none_there : (ring it next : List Register) (res : Option Register) → it ≡ reverse ring → YieldsFirst (λ rest. rest) it res next →
    IfNone res (ring ≡ [])
none_there ring it next None e steps = sym (reverse-reverse ring) ∙ ap (λ l. reverse l) (sym e ∙ steps.0)
none_there ring it next (Some r) e steps = tt

-- the first that comes is the ring's last
pub popped : (ring it next : List Register) (res : Option Register) → it ≡ reverse ring → YieldsFirst (λ rest. rest) it res next →
    res ≡ slice_get ring (length ring - 1)
popped ring it next None e steps =
    let none : ring ≡ [] = none_there ring it next None e steps in
    rw none refl
popped ring it next (Some r) e steps = sym (last_of_reverse ring next r (sym e ∙ steps))

-- what comes first is found by each test that it passes
pub first_passes : (ring it next : List Register) (res : Option Register) → it ≡ reverse ring → YieldsFirst (λ rest. rest) it res next →
    IfSome res (λ r. (test : Register → Bool) → test r ≡ true → find test (reverse ring) ≡ Some r)
first_passes ring it next None e steps = tt
first_passes ring it next (Some r) e steps = λ test t.
    let turned : reverse ring ≡ r ∷ next = sym e ∙ steps in
    rw (turned, t) refl

-- what comes first is in the ring
pub first_there : (ring it next : List Register) (res : Option Register) → it ≡ reverse ring → YieldsFirst (λ rest. rest) it res next →
    IfSome res (λ r. Contains ring r)
first_there ring it next None e steps = tt
first_there ring it next (Some r) e steps =
    Contains-permutation (reverse ring) ring r (IsPermutation-sym ring (reverse ring) (IsPermutation-reverse ring))
    (rw (sym e ∙ steps) (0, omega arith, refl))

-- what holds of the registers behind r in a list holds from the index after r's on
within : (P : Register → Type 0) (us : List Register) (r : Register) (vs : List Register) → All P vs →
    AllWithin P (us ++ r ∷ vs) (length us + 1) (length (us ++ r ∷ vs))
within P [] r vs all zero d low high = absurd (omega arith)
within P [] r vs all (suc k) d low high = all k d (omega arith)
within P (u ∷ us) r vs all zero d low high = absurd (omega arith)
within P (u ∷ us) r vs all (suc k) d low high = within P us r vs all k d (omega arith) (omega arith)

all_reversed : (P : Register → Type 0) (xs : List Register) → All P xs → All P (reverse xs)
all_reversed P xs all = All-permutation P xs (reverse xs) (IsPermutation-reverse xs) all

-- where a closure returned false for each register of the ring, there is no least recently used accepted one
pub none_accepted : (answers : Register → Bool → Type 0) (ring done rest : List Register) → reverse ring ≡ done ++ rest → rest ≡ [] →
    All (λ r. answers r false) done → IsOldestAccepted answers ring None
none_accepted answers ring done rest e none all =
    let whole : reverse ring ≡ done = e ∙ ap (λ l. done ++ l) none ∙ append-nil done in
    let back : ring ≡ reverse done = sym (reverse-reverse ring) ∙ ap (λ l. reverse l) whole in
    rw back (all_reversed (λ (r : Register). answers r false) done all)

-- where a closure returned false for the registers from the ring's end up to r and true for r, r is the least recently used accepted one
pub one_accepted : (answers : Register → Bool → Type 0) (ring done rest : List Register) (r : Register) → reverse ring ≡ done ++ r ∷ rest →
    All (λ q. answers q false) done → answers r true → IsOldestAccepted answers ring (Some r)
one_accepted answers ring done rest r e all here =
    let back : ring ≡ reverse rest ++ r ∷ reverse done =
    sym (reverse-reverse ring) ∙ ap (λ l. reverse l) e ∙ reverse-append done (r ∷ rest)
    ∙ ap (λ l. l ++ reverse done) (reverse-append (r ∷ []) rest) ∙ append_assoc (reverse rest) (r ∷ []) (reverse done) in (
      here,
      length (reverse rest),
      rw (back, length-append (reverse rest) (r ∷ reverse done)) (omega arith),
      rw back (get_or_at (reverse rest) r (reverse done) r (length (reverse rest)) refl),
      rw back (within (λ (q : Register). answers q false) (reverse rest) r (reverse done) (all_reversed (λ (q : Register). answers q false) done all)),
    )
