-- A ring that was made of some registers.
use Rattle.std.proofs.Common.{zero, suc, ◌≡◌, ◌<◌, ◌≤◌, ◌∙◌, refl, arith, sym, ap, subst, List, [], ◌∷◌, Bool, true, false, not, cond, nat_eq, eq-eqb}
use Rattle.std.proofs.Common.{slice_index_or, inl, inr}
use Rattle.std.specs.Prelude.{All, Contains, IsPermutation, ◌↔◌, ◌⊎◌, filter, map}
use Rattle.std.specs.List.{AllByRecursion, IsDistinct}
use Rattle.std.specs.List.Sorted.{IsNonDecreasingBy}
use Rattle.std.proofs.lemmas.Bool.{cases_lt, not_from_false}
use Rattle.std.proofs.lemmas.List.Elements.{All-contains, All-head, All-tail, Contains-get_or, recursion_from_All}
use Rattle.std.proofs.lemmas.List.Sorted.{All-permutation, IsPermutation-cons, IsPermutation-refl, IsPermutation-remove, IsPermutation-sym, IsPermutation-trans}
use Rattle.std.proofs.lemmas.Map.Keys.{IsDistinct-head, IsDistinct-tail, IsDistinct-cons}
use Rattle.regalloc2_names.specs.declared.RegClass.{RegClass}
use Rattle.regalloc2_names.specs.Listed.{IsRising, IsWalkOf}
use Rattle.regalloc2_names.specs.declared.sets.PRegSet.{PRegSet}
use Rattle.regalloc2_names.specs.Register.{has_register, Register, class_code, is_register}
use Rattle.regalloc2_names.specs.RegisterBits.{bits_of_register}
use Rattle.regalloc2_parts.specs.Ring.{AreDistinctOf, IsNewRing}
use Rattle.regalloc2_parts.specs.RingNodes.{named}
use Rattle.regalloc2_parts.proofs.MemberOut.{without}
use Rattle.regalloc2_parts.proofs.Poked.{kept, was_there}
use Rattle.regalloc2_parts.proofs.RegisterLaws.{filter-distinct, is_register-refl, is_register-true}

-- registers that differ, and the same ones in another order
no_members : (ys : List Register) → ((r : Register) → Contains ys r → Contains [] r) → ys ≡ []
no_members [] h = refl
no_members (y ∷ ys) h = absurd (let m = h y (0, omega arith, refl) in let less : m.0 < 0 = m.1 in omega arith)

later : (x r : Register) (xs : List Register) → Contains (x ∷ xs) r → is_register x r ≡ false → Contains xs r
later x r xs (zero, less, at) e = absurd (let s : is_register x r ≡ true = rw at (is_register-refl r) in cc)
later x r xs (suc k, less, at) e = (k, omega arith, at)

differs_from : (x r : Register) (xs : List Register) → AllByRecursion (λ y. is_register x y ≡ false) xs → Contains xs r → is_register x r ≡ false
differs_from x r [] h (k, less, at) = absurd (omega arith)
differs_from x r (y ∷ ys) h (zero, less, at) = rw (← at) h.0
differs_from x r (y ∷ ys) h (suc k, less, at) = differs_from x r ys h.1 (k, omega arith, at)

not_there : (x r : Register) (ys : List Register) → Contains (filter (λ q. not (is_register x q)) ys) r → is_register x r ≡ false
not_there x r [] (k, less, at) = absurd (omega arith)
not_there x r (y ∷ ys) m = by_test (is_register x y) refl m (not_there x r ys)
  where
    by_test : (b : Bool) → is_register x y ≡ b → Contains (cond (not b) (y ∷ filter (λ q. not (is_register x q)) ys)
        (filter (λ q. not (is_register x q)) ys)) r →
        (Contains (filter (λ q. not (is_register x q)) ys) r → is_register x r ≡ false) → is_register x r ≡ false
    by_test true e m rest = rest m
    by_test false e (zero, less, at) rest = rw (← at) e
    by_test false e (suc k, less, at) rest = rest (k, omega arith, at)

-- two lists without repeats that have the same registers are reorderings of each other
pub reordered : (xs ys : List Register) → IsDistinct is_register xs → IsDistinct is_register ys → ((r : Register) → Contains xs r ↔ Contains ys r) →
    IsPermutation xs ys
reordered [] ys dx dy same = rw (no_members ys (λ r. (same r).1)) (IsPermutation-refl [])
reordered (x ∷ xs) ys dx dy same =
    let at = (same x).0 (0, omega arith, refl) in
    let rest = filter (λ q. not (is_register x q)) ys in
    let apart = IsDistinct-head is_register x xs dx in
    let tail : IsPermutation xs rest = reordered xs rest (IsDistinct-tail is_register x xs dx) (filter-distinct (λ q. not (is_register x q)) ys dy)
    (λ r. (
      λ m. (let e : is_register x r ≡ false = differs_from x r xs apart m in
          kept (λ q. not (is_register x q)) ys r ((same r).0 (suc m.0, omega (arith, m.1), m.2)) (not_from_false (is_register x r) e)),
      λ m. later x r xs ((same r).1 (was_there (λ q. not (is_register x q)) ys r m)) (not_there x r ys m),
    )) in
    let whole : IsPermutation (x ∷ rest) ys =
    IsPermutation-sym ys (x ∷ rest) (rw (without x ys at.0 dy at.1 at.2) (IsPermutation-remove ys at.0 x at.1 (sym at.2))) in
    IsPermutation-trans (x ∷ xs) (x ∷ rest) ys (IsPermutation-cons x xs rest tail) whole

-- registers whose indexes rise differ
rising_tail : (x : Register) (xs : List Register) → IsRising (x ∷ xs) → IsRising xs
rising_tail x xs rise i j d less fits = rise (suc i) (suc j) d (omega arith) (omega arith)

rising_differ : (xs : List Register) → IsRising xs → IsDistinct is_register xs
unfolding IsDistinct
rising_differ [] rise = tt
rising_differ (x ∷ xs) rise =
    IsDistinct-cons is_register x xs
    (recursion_from_All (λ (y : Register). is_register x y ≡ false) xs
    (λ k d fits. apart (slice_index_or xs k d) (rise 0 (suc k) d (omega arith) (omega arith))))
    (rising_differ xs (rising_tail x xs rise))
  where
    apart : (y : Register) → bits_of_register x < bits_of_register y → is_register x y ≡ false
    apart y less = by_answer (is_register x y) refl
      where
        by_answer : (b : Bool) → is_register x y ≡ b → b ≡ false
        by_answer true e = absurd (let s : bits_of_register x ≡ bits_of_register y = ap bits_of_register (is_register-true x y e) in omega arith)
        by_answer false e = refl

numbers_rise : (class : RegClass) (xs : List Register) → All (λ r. r.class ≡ class) xs → IsRising xs → IsNonDecreasingBy (λ r. r.number) xs
numbers_rise class xs of_class rise i j d le fits = by_order (cases_lt i j)
  where
    by_order : (i < j) ⊎ (j ≤ i) → (slice_index_or xs i d).number ≤ (slice_index_or xs j d).number
    by_order (inl less) =
        let e : class_code (slice_index_or xs i d).class ≡ class_code (slice_index_or xs j d).class =
        ap class_code (of_class i d (omega arith) ∙ sym (of_class j d fits)) in
        let r = rise i j d less fits in
        omega arith
    by_order (inr more) = let same : i ≡ j = omega arith in rw same (omega arith)

-- the registers of a set by rising index are the new ring of a list of them
pub new_ring : (class : RegClass) (regs xs : List Register) → AreDistinctOf class regs → IsRising xs → ((r : Register) → Contains regs r ↔ Contains xs r) →
    IsNewRing regs xs
new_ring class regs xs regs_are rise same =
    let members = reordered regs xs regs_are.distinct (rising_differ xs rise) same in
    record {
      members = members;
      rising = numbers_rise class xs (All-permutation (λ (r : Register). r.class ≡ class) regs xs members regs_are.of_class) rise;
      distinct = rising_differ xs rise;
    }

-- the registers of a walk over a set are named by their numbers
pub by_numbers : (class : RegClass) (xs : List Register) → All (λ r. r.class ≡ class) xs → map (named class) (map (λ r. r.number) xs) ≡ xs
by_numbers class [] h = refl
by_numbers class (x ∷ xs) h =
    let here : named class x.number ≡ x = ap (λ (c : RegClass). named c x.number) (sym (All-head (λ (r : Register). r.class ≡ class) x xs h)) in
    rw here (ap (λ l. x ∷ l) (by_numbers class xs (All-tail (λ (r : Register). r.class ≡ class) x xs h)))

-- numbers of distinct registers of one class
pub numbers_distinct : (class : RegClass) (xs : List Register) → All (λ r. r.class ≡ class) xs → IsDistinct is_register xs →
    IsDistinct nat_eq (map (λ r. r.number) xs)
unfolding IsDistinct
numbers_distinct class [] h d = tt
numbers_distinct class (x ∷ xs) h d =
    IsDistinct-cons nat_eq x.number (map (λ (r : Register). r.number) xs)
    (apart xs (All-tail (λ (r : Register). r.class ≡ class) x xs h) (IsDistinct-head is_register x xs d))
    (numbers_distinct class xs (All-tail (λ (r : Register). r.class ≡ class) x xs h) (IsDistinct-tail is_register x xs d))
  where
    apart : (ys : List Register) → All (λ r. r.class ≡ class) ys → AllByRecursion (λ y. is_register x y ≡ false) ys →
        AllByRecursion (λ n. nat_eq x.number n ≡ false) (map (λ r. r.number) ys)
    apart [] g e = tt
    apart (y ∷ ys) g e =
        let same : class_code x.class ≡ class_code y.class =
        ap class_code (All-head (λ (r : Register). r.class ≡ class) x xs h ∙ sym (All-head (λ (r : Register). r.class ≡ class) y ys g)) in
        let t : nat_eq (class_code x.class) (class_code y.class) ≡ true = eq-eqb _ _ same in
        (rw t at e.0, apart ys (All-tail (λ (r : Register). r.class ≡ class) y ys g) e.1)

-- what a walk over a set of some registers of a class gives is of that class
pub all_of_class : (class : RegClass) (regs xs : List Register) → All (λ r. r.class ≡ class) regs → ((r : Register) → Contains regs r ↔ Contains xs r) →
    All (λ r. r.class ≡ class) xs
all_of_class class regs xs regs_are same = λ k d less.
    All-contains (λ (r : Register). r.class ≡ class) regs (slice_index_or xs k d) regs_are ((same (slice_index_or xs k d)).1 (Contains-get_or xs k d less))

-- what a walk over a set of registers gives has the same members as their list
pub same_list : (set : PRegSet) (regs walk : List Register) → ((r : Register) → (has_register set r ≡ true) ↔ Contains regs r) → IsWalkOf set walk →
    (r : Register) → Contains regs r ↔ Contains walk r
same_list set regs walk of is r = (λ m. (is.members r).0 ((of r).1 m), λ m. (of r).0 ((is.members r).1 m))

-- a walk over no registers gives none
pub empty_ring : (class : RegClass) (set : PRegSet) (regs walk : List Register) → AreDistinctOf class regs →
    ((r : Register) → (has_register set r ≡ true) ↔ Contains regs r) → IsWalkOf set walk → walk ≡ [] → IsNewRing regs []
empty_ring class set regs walk distinct of is none =
    subst (λ l. IsNewRing regs l) none (new_ring class regs walk distinct is.rising (same_list set regs walk of is))

-- what the numbers of a walk over a set of distinct registers of a class are
pub record IsMade (class : RegClass) (regs : List Register) (newest : Register) (rest : List Register) : Type 0 where
  pub ring : IsNewRing regs (newest ∷ rest)
  pub named : map (named class) (newest.number ∷ map (λ r. r.number) rest) ≡ newest ∷ rest
  pub distinct : IsDistinct nat_eq (newest.number ∷ map (λ r. r.number) rest)
  pub some : Contains regs newest

-- the registers in the order of a walk over their set are a new ring of them
pub made : (class : RegClass) (set : PRegSet) (regs walk : List Register) (newest : Register) (rest : List Register) → AreDistinctOf class regs →
    ((r : Register) → (has_register set r ≡ true) ↔ Contains regs r) → IsWalkOf set walk → walk ≡ newest ∷ rest → IsMade class regs newest rest
made class set regs walk newest rest distinct of is e =
    let same : (r : Register) → Contains regs r ↔ Contains (newest ∷ rest) r = subst (λ l. (r : Register) → Contains regs r ↔ Contains l r) e
    (same_list set regs walk of is) in
    let ring = new_ring class regs (newest ∷ rest) distinct (subst (λ l. IsRising l) e is.rising) same in
    let classes = all_of_class class regs (newest ∷ rest) distinct.of_class same in
    record {
      ring = ring;
      named = by_numbers class (newest ∷ rest) classes;
      distinct = numbers_distinct class (newest ∷ rest) classes ring.distinct;
      some = (same newest).1 (0, omega arith, refl);
    }
