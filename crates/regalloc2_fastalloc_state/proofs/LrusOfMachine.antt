-- The LRU lists of a machine's registers.
use Rattle.std.proofs.Common.{ℕ, suc, ◌≡◌, ◌≢◌, ◌+◌, ◌<◌, List, [], ◌∷◌, ◌++◌, Bool, true, false, length, refl, sym, ap, ◌∙◌, ◌⊎◌, ⊎_elim, inl, inr, subst}
use Rattle.std.proofs.Common.{arith, slice_index_or}
use Rattle.std.specs.Prelude.{All, Contains, ◌||◌, Result, Ok, Err, IfOk}
use Rattle.std.specs.List.{IsDistinct, AllByRecursion}
use Rattle.std.proofs.lemmas.List.Elements.{Contains-append_left, Contains-append_right, All-contains, All-push}
use Rattle.std.proofs.lemmas.List.Sorted.{Contains-permutation, IsPermutation-sym}
use Rattle.regalloc2_names.specs.declared.RegClass.{RegClass}
use Rattle.regalloc2_names.specs.declared.RegClass.TheVariants.{Int, Float, Vector}
use Rattle.regalloc2_names.specs.declared.sets.PRegSet.{PRegSet}
use Rattle.regalloc2_names.specs.Register.{Register, class_code, is_register, has_register}
use Rattle.regalloc2_semantics.proofs.Cells.{is_register-true}
use Rattle.regalloc2_parts.specs.Ring.{IsNewRing}
use Rattle.regalloc2_fastalloc_state.specs.ClassLrus.{AreLrusOf}
use Rattle.regalloc2_fastalloc_state.specs.StateParts.{AreThoseBelow, AreLrus, AreSplit, IsLruOf}
use Rattle.std.proofs.lemmas.Bool.{cases_eq, cases_Bool, or_left, or_right}

-- a list whose members differ, with one more
distinct_push : (regs : List Register) (r : Register) → IsDistinct is_register regs → All (λ q. is_register q r ≡ false) regs →
    IsDistinct is_register (regs ++ r ∷ [])
unfolding IsDistinct
distinct_push [] r d a = (tt, tt)
distinct_push (q ∷ qs) r d a = (apart qs r q d.0 (a 0 q (omega arith)), distinct_push qs r d.1 (λ k x lt. a (suc k) x (omega arith)))
  where
    apart : (qs : List Register) (r q : Register) → AllByRecursion (λ y. is_register q y ≡ false) qs → is_register q r ≡ false →
        AllByRecursion (λ y. is_register q y ≡ false) (qs ++ r ∷ [])
    apart [] r q h e = (e, tt)
    apart (x ∷ xs) r q h e = (h.0, apart xs r q h.1 e)

-- one register after another
pub those_none : (set : PRegSet) (class : RegClass) → AreThoseBelow set class 0 []
unfolding IsDistinct
those_none set class = record {
  distinct = record { of_class = λ k d lt. absurd (omega arith); distinct = tt };
  small = λ k d lt. absurd (omega arith);
  has = λ k d lt. absurd (omega arith);
  all = λ r lt c h. absurd (omega arith);
}

-- registers with one number and one class are one
same_registers : (p q : Register) → p.number ≡ q.number → p.class ≡ q.class → p ≡ q
same_registers p q e f = by_parts p.number q.number p.class q.class e f
  where
    by_parts : (m n : ℕ) (c d : RegClass) → m ≡ n → c ≡ d → ◌≡◌ {A = Register} (record { number = m; class = c }) (record { number = n; class = d })
    by_parts m n c d e f = rw (e, f) refl

-- the registers of a class in a set with numbers below n + 1 are the registers below n, and register n, if the set has
-- it
pub those_more : (set : PRegSet) (class : RegClass) (n : ℕ) (regs : List Register) (r : Register) → r.number ≡ n → r.class ≡ class → has_register set r ≡ true
    → AreThoseBelow set class n regs → AreThoseBelow set class (n + 1) (regs ++ r ∷ [])
those_more set class n regs r number of_class has h = record {
  distinct = record {
    of_class = All-push (λ q. q.class ≡ class) regs r h.distinct.of_class of_class;
    distinct = distinct_push regs r h.distinct.distinct (λ k d lt. differ (slice_index_or regs k d) (h.small k d lt));
  };
  small = All-push (λ q. q.number < n + 1) regs r (λ k d lt. let s = h.small k d lt in omega arith) (omega arith);
  has = All-push (λ q. has_register set q ≡ true) regs r h.has has;
  all = λ q lt c e. ⊎_elim
      (λ (s : q.number ≡ n). subst (λ (x : Register). Contains (regs ++ r ∷ []) x) (same_registers r q (number ∙ sym s) (of_class ∙ sym c))
      (Contains-append_right regs (r ∷ []) r (0, omega arith, refl)))
      (λ (d : q.number ≢ n). Contains-append_left regs (r ∷ []) q (h.all q (omega arith) c e))
      (cases_eq q.number n);
}
  where
    differ : (q : Register) → q.number < n → is_register q r ≡ false
    differ q lt = ⊎_elim
        (λ (e : is_register q r ≡ true). let s : q.number ≡ r.number = ap (λ (x : Register). x.number) (is_register-true q r e) in absurd (omega arith))
        (λ (e : is_register q r ≡ false). e)
        (cases_Bool (is_register q r))

-- the registers of a class in a set with numbers below n + 1 are the registers below n, if the set lacks register n
pub those_same : (set : PRegSet) (class : RegClass) (n : ℕ) (regs : List Register) (r : Register) → r.number ≡ n → r.class ≡ class → has_register set r ≡ false
    → AreThoseBelow set class n regs → AreThoseBelow set class (n + 1) regs
those_same set class n regs r number of_class hasnt h = record {
  distinct = h.distinct;
  small = λ k d lt. let s = h.small k d lt in omega arith;
  has = h.has;
  all = λ q lt c e. ⊎_elim
      (λ (s : q.number ≡ n). absurd (let f : has_register set q ≡ has_register set r = ap (has_register set)
      (same_registers q r (s ∙ sym number) (c ∙ sym of_class)) in cc))
      (λ (d : q.number ≢ n). h.all q (omega arith) c e)
      (cases_eq q.number n);
}

-- an LRU list of a class's registers, among the lists of other classes
pub ring_is : (allocatable set : PRegSet) (class : RegClass) (regs ring : List Register) → AreThoseBelow set class 64 regs → IsNewRing regs ring
    → ((r : Register) → has_register set r ≡ true → has_register allocatable r ≡ true)
    → ((r : Register) → r.class ≡ class → has_register allocatable r ≡ true → has_register set r ≡ true) → IsLruOf allocatable class ring
ring_is allocatable set class regs ring those new into from = record {
  of_class = λ r c. let m = member r c in (
    All-contains (λ q. q.class ≡ class) regs r those.distinct.of_class m,
    All-contains (λ q. q.number < 64) regs r those.small m,
  );
  has = λ r c. into r (All-contains (λ q. has_register set q ≡ true) regs r those.has (member r c));
  all = λ r lt c h. Contains-permutation regs ring r new.members (those.all r lt c (from r c h));
}
  where
    member : (r : Register) → Contains ring r → Contains regs r
    member r c = Contains-permutation ring regs r (IsPermutation-sym regs ring new.members) c

-- three lists, each the LRU of all allocatable registers of its class, are the LRUs by class
pub rings_are : (allocatable : PRegSet) (lrus : List (List Register)) → length lrus ≡ 3
    → IsLruOf allocatable Int (slice_index_or lrus 0 []) → IsLruOf allocatable Float (slice_index_or lrus 1 []) →
    IsLruOf allocatable Vector (slice_index_or lrus 2 [])
    → AreLrus allocatable lrus
rings_are allocatable lrus three int float vector = record {
  three = three;
  of_class = λ c r h. (each c).of_class r h;
  has = λ c r h. (each c).has r h;
  all = λ r lt h. (each r.class).all r lt refl h;
}
  where
    each : (c : RegClass) → IsLruOf allocatable c (slice_index_or lrus (class_code c) [])
    each Int = int
    each Float = float
    each Vector = vector

-- which of three sets a register is in
one_of : (a b c : Bool) → ((a || b) || c) ≡ true → (a ≡ true) ⊎ ((b ≡ true) ⊎ (c ≡ true))
one_of true b c e = inl refl
one_of false true c e = inr (inl refl)
one_of false false c e = inr (inr e)

or_first : (a b c : Bool) → a ≡ true → ((a || b) || c) ≡ true
or_first a b c e = or_left (a || b) c (or_left a b e)

or_second : (a b c : Bool) → b ≡ true → ((a || b) || c) ≡ true
or_second a b c e = or_left (a || b) c (or_right a b e)

or_third : (a b c : Bool) → c ≡ true → ((a || b) || c) ≡ true
or_third a b c e = or_right (a || b) c e

-- a set of three sets, each of its class
pub record IsUnion (all int float vector : PRegSet) : Type 0 where
  pub same : (r : Register) → has_register all r ≡ ((has_register int r || has_register float r) || has_register vector r)
  pub int_class : (r : Register) → has_register int r ≡ true → r.class ≡ Int
  pub float_class : (r : Register) → has_register float r ≡ true → r.class ≡ Float
  pub vector_class : (r : Register) → has_register vector r ≡ true → r.class ≡ Vector

-- a member of the union is one of the set of its class
pub by_class : (all int float vector : PRegSet) (P : Type 0) (r : Register) → IsUnion all int float vector → has_register all r ≡ true
    → (has_register int r ≡ true → P) → (has_register float r ≡ true → P) → (has_register vector r ≡ true → P) → P
by_class all int float vector P r u h a b c =
    ⊎_elim a (λ (o : (has_register float r ≡ true) ⊎ (has_register vector r ≡ true)). ⊎_elim b c o)
    (one_of (has_register int r) (has_register float r) (has_register vector r) (sym (u.same r) ∙ h))

-- three lists, newly filled with all registers of each class of a set, are the LRUs of that set
rings_from : (all int float vector : PRegSet) (ints floats vectors : List Register) (lrus : List (List Register)) → IsUnion all int float vector
    → AreThoseBelow int Int 64 ints → AreThoseBelow float Float 64 floats → AreThoseBelow vector Vector 64 vectors
    → length lrus ≡ 3 → IsNewRing ints (slice_index_or lrus 0 []) → IsNewRing floats (slice_index_or lrus 1 []) → IsNewRing vectors (slice_index_or lrus 2 [])
    → AreLrus all lrus
rings_from all int float vector ints floats vectors lrus u ti tf tv three ni nf nv = rings_are all lrus three
    (ring_is all int Int ints (slice_index_or lrus 0 []) ti ni
    (λ r h. u.same r ∙ or_first (has_register int r) (has_register float r) (has_register vector r) h)
    (λ r c h. by_class all int float vector (has_register int r ≡ true) r u h (λ x. x) (λ x. absurd (let e = sym c ∙ u.float_class r x in cc))
    (λ x. absurd (let e = sym c ∙ u.vector_class r x in cc))))
    (ring_is all float Float floats (slice_index_or lrus 1 []) tf nf
    (λ r h. u.same r ∙ or_second (has_register int r) (has_register float r) (has_register vector r) h)
    (λ r c h. by_class all int float vector (has_register float r ≡ true) r u h (λ x. absurd (let e = sym c ∙ u.int_class r x in cc)) (λ x. x)
    (λ x. absurd (let e = sym c ∙ u.vector_class r x in cc))))
    (ring_is all vector Vector vectors (slice_index_or lrus 2 []) tv nv
    (λ r h. u.same r ∙ or_third (has_register int r) (has_register float r) (has_register vector r) h)
    (λ r c h. by_class all int float vector (has_register vector r ≡ true) r u h (λ x. absurd (let e = sym c ∙ u.int_class r x in cc))
    (λ x. absurd (let e = sym c ∙ u.float_class r x in cc)) (λ x. x)))

-- lists made of the sets of a machine are its LRU lists
pub rings_of : (all int float vector : PRegSet) (lrus : List (List Register)) → IsUnion all int float vector → AreLrusOf int float vector lrus →
    AreLrus all lrus
rings_of all int float vector lrus u made =
    rings_from all int float vector made.ints made.floats made.vectors lrus u made.of_int made.of_float made.of_vector made.three made.int_lru made.float_lru
    made.vector_lru

-- lists made of the registers of each set, where there was memory for them
pub lrus_made : {R E : Type 0} (lrus : R → List (List Register)) (result : Result R E) (int float vector : PRegSet) (ints floats vectors : List Register) →
    AreThoseBelow int Int 64 ints → AreThoseBelow float Float 64 floats → AreThoseBelow vector Vector 64 vectors →
    IfOk result (λ r. length (lrus r) ≡ 3) → IfOk result (λ r. IsNewRing ints (slice_index_or (lrus r) 0 [])) →
    IfOk result (λ r. IsNewRing floats (slice_index_or (lrus r) 1 [])) → IfOk result (λ r. IsNewRing vectors (slice_index_or (lrus r) 2 [])) →
    IfOk result (λ r. AreLrusOf int float vector (lrus r))
lrus_made lrus (Err e) int float vector ints floats vectors ti tf tv three ni nf nv = tt
lrus_made lrus (Ok r) int float vector ints floats vectors ti tf tv three ni nf nv = record {
  ints = ints;
  floats = floats;
  vectors = vectors;
  of_int = ti;
  of_float = tf;
  of_vector = tv;
  three = three;
  int_lru = ni;
  float_lru = nf;
  vector_lru = nv;
}

-- a member of the set of its class is one of the union
pub in_union : (all int float vector : PRegSet) →
    ((r : Register) → has_register all r ≡ ((has_register int r || has_register float r) || has_register vector r)) → (r : Register)
    → (r.class ≡ Int → has_register int r ≡ true) → (r.class ≡ Float → has_register float r ≡ true) → (r.class ≡ Vector → has_register vector r ≡ true) →
    has_register all r ≡ true
in_union all int float vector same r a b c = by_test r.class refl
  where
    by_test : (k : RegClass) → r.class ≡ k → has_register all r ≡ true
    by_test Int e = same r ∙ or_first (has_register int r) (has_register float r) (has_register vector r) (a e)
    by_test Float e = same r ∙ or_second (has_register int r) (has_register float r) (has_register vector r) (b e)
    by_test Vector e = same r ∙ or_third (has_register int r) (has_register float r) (has_register vector r) (c e)

-- three sets, each of its class, split their union
pub split_from : (all int float vector : PRegSet) → IsUnion all int float vector → AreSplit all (int ∷ float ∷ vector ∷ [])
split_from all int float vector u Int r = (
  λ h. (u.int_class r h, u.same r ∙ or_first (has_register int r) (has_register float r) (has_register vector r) h),
  λ h. by_class all int float vector (has_register int r ≡ true) r u h.1 (λ x. x) (λ x. absurd (let e = sym h.0 ∙ u.float_class r x in cc))
      (λ x. absurd (let e = sym h.0 ∙ u.vector_class r x in cc)),
)
split_from all int float vector u Float r = (
  λ h. (u.float_class r h, u.same r ∙ or_second (has_register int r) (has_register float r) (has_register vector r) h),
  λ h. by_class all int float vector (has_register float r ≡ true) r u h.1 (λ x. absurd (let e = sym h.0 ∙ u.int_class r x in cc)) (λ x. x)
      (λ x. absurd (let e = sym h.0 ∙ u.vector_class r x in cc)),
)
split_from all int float vector u Vector r = (
  λ h. (u.vector_class r h, u.same r ∙ or_third (has_register int r) (has_register float r) (has_register vector r) h),
  λ h. by_class all int float vector (has_register vector r ≡ true) r u h.1 (λ x. absurd (let e = sym h.0 ∙ u.int_class r x in cc))
      (λ x. absurd (let e = sym h.0 ∙ u.float_class r x in cc)) (λ x. x),
)

-- an array of three is that of its items
pub three_items : {X : Type 0} (xs : List X) (a b d : X) → length xs ≡ 3 → slice_index_or xs 0 a ∷ slice_index_or xs 1 b ∷ slice_index_or xs 2 d ∷ [] ≡ xs
three_items [] a b d three = absurd (omega (arith, three))
three_items (x ∷ []) a b d three = absurd (omega (arith, three))
three_items (x ∷ y ∷ []) a b d three = absurd (omega (arith, three))
three_items (x ∷ y ∷ z ∷ []) a b d three = refl
three_items (x ∷ y ∷ z ∷ w ∷ ws) a b d three = absurd (omega (arith, three))
