-- Steps of walks over the places where a vreg may be.
use Rattle.std.proofs.Common.{inl, inr, ℕ, ◌≡◌, ◌+◌, ◌<◌, arith, Bool, true, false}
use Rattle.std.proofs.Common.{nat_eq, nat_lt, eq-eqb, List, [], ◌∷◌, ◌++◌, length, get_or, take, refl, sym, ap, ◌∙◌, subst}
use Rattle.std.specs.Prelude.{◌&&◌, ◌||◌, if◌then◌else◌}
use Rattle.std.specs.List.Sorted.{IsStrictlyIncreasing}
use Rattle.std.proofs.lemmas.List.{take_more}
use Rattle.std.proofs.lemmas.Bool.{false≢true, cases_eq, lt-ltb as below, ne_eqb}
use Rattle.std.proofs.Math.Bool.{and-false, or-false as or-no}
use Rattle.regalloc2_function.specs.Numbers.{NumberSet, has_number, times_listed}
use Rattle.regalloc2_checker_sets.specs.SavedNumbers.{NumberCopies}
use Rattle.regalloc2_checker_sets.specs.EntrySets.{AreMore}
use Rattle.regalloc2_checker_sets.specs.Homes.{HomePlaces, no_homes, has_few, has_home}
use Rattle.regalloc2_checker.specs.Holding.{IsHome, IsSavedHome, is_in}
use Rattle.regalloc2_checker_sets.specs.Held.{AreBelow, AreStill}
use Rattle.regalloc2_checker_sets.specs.Homes.{AreMoreHomes}
use Rattle.regalloc2_checker_sets.proofs.Bits.{other-times, same-times}
use Rattle.regalloc2_checker_sets.proofs.HomeLaws.{home-is}
use Rattle.regalloc2_checker_sets.proofs.Walked.{walked-more}
use Rattle.regalloc2_checker_sets.proofs.Listed.{listed-once}

-- sets that stay over two steps stay over both
pub more-sets : (a b c : List NumberSet) → AreMore a b → AreMore b c → AreMore a c
more-sets a b c h g =
    let x = h.longer in
    let y = g.longer in
    record { longer = omega arith; kept = λ n y l. g.kept n y (omega arith) ∙ h.kept n y l }

-- where nothing is done, only the current array changed
pub still-same : (s : List NumberSet) (e : NumberCopies) → AreBelow s e → AreStill s e s e
still-same s e h = record {
  more = record { longer = omega arith; kept = λ n y l. refl };
  long = refl;
  count = refl;
  saved = λ k i. refl;
  below = h;
}

-- only the current array changed over two steps, if over each only the current array did
pub still-then : (s t u : List NumberSet) (e f g : NumberCopies) → AreStill s e t f → AreStill t f u g → AreStill s e u g
still-then s t u e f g h k = record {
  more = more-sets s t u h.more k.more;
  long = k.long ∙ h.long;
  count = k.count ∙ h.count;
  saved = λ n i. k.saved n i ∙ h.saved n i;
  below = k.below;
}

-- nothing is dropped yet
pub dropped-none : (old : ℕ → ℕ → Bool) (bits i y : ℕ) → old i y ≡ (if nat_lt 0 (times_listed [] i) && nat_eq y bits then false else old i y)
unfolding times_listed
dropped-none old bits i y = refl

-- one place more
pub dropped-more : (old mid new : ℕ → ℕ → Bool) (done : List ℕ) (place bits size : ℕ) →
    ((i y : ℕ) → i < size → mid i y ≡ (if nat_lt 0 (times_listed done i) && nat_eq y bits then false else old i y)) →
    ((i y : ℕ) → i < size → new i y ≡ (if nat_eq i place && nat_eq y bits then false else mid i y)) → (i y : ℕ) → i < size →
    new i y ≡ (if nat_lt 0 (times_listed (done ++ place ∷ []) i) && nat_eq y bits then false else old i y)
dropped-more old mid new done place bits size h g i y l = elim (cases_eq i place) [
  | inl e ↦
      let a : nat_lt 0 (times_listed (done ++ place ∷ []) i) ≡ true = below 0 _ (rw e (same-times done place)) in
      g i y l ∙ ap (λ b. if b && nat_eq y bits then false else mid i y) (eq-eqb i place e)
      ∙ ap (λ b. if nat_eq y bits then false else b) (h i y l)
      ∙ twice (nat_lt 0 (times_listed done i)) (nat_eq y bits) (old i y)
      ∙ sym (ap (λ b. if b && nat_eq y bits then false else old i y) a)
  | inr n ↦
      g i y l ∙ ap (λ b. if b && nat_eq y bits then false else mid i y) (ne_eqb i place n) ∙ h i y l
      ∙ ap (λ k. if nat_lt 0 k && nat_eq y bits then false else old i y) (sym (other-times done place i n))
]
  where
    twice : (t b o : Bool) → (if b then false else (if t && b then false else o)) ≡ (if true && b then false else o)
    twice true true o = refl
    twice false true o = refl
    twice true false o = refl
    twice false false o = refl

-- what is left was there
pub dropped-less : (old new : ℕ → ℕ → Bool) (t : ℕ → Bool) (bits size : ℕ) →
    ((i y : ℕ) → i < size → new i y ≡ (if t i && nat_eq y bits then false else old i y)) → (i y : ℕ) → i < size → new i y ≡ true → old i y ≡ true
dropped-less old new t bits size h i y l is = either (t i && nat_eq y bits) (old i y) (sym (h i y l) ∙ is)
  where
    either : (b o : Bool) → (if b then false else o) ≡ true → o ≡ true
    either true o e = absurd cc
    either false o e = e

-- lists of places: one more
pub is_in-more : (xs : List ℕ) (x i : ℕ) → is_in (xs ++ x ∷ []) i ≡ (is_in xs i || nat_eq x i)
is_in-more [] x i = or-false (nat_eq x i)
  where
    or-false : (b : Bool) → (b || false) ≡ b
    or-false true = refl
    or-false false = refl
is_in-more (z ∷ xs) x i = ap (λ b. nat_eq z i || b) (is_in-more xs x i) ∙ assoc (nat_eq z i) (is_in xs i) (nat_eq x i)
  where
    assoc : (a b c : Bool) → (a || (b || c)) ≡ (a || b || c)
    assoc true b c = refl
    assoc false b c = refl

-- a place that passes a test is listed
pub holder-is : (holders : List ℕ) (test : ℕ → Bool) (place : ℕ) → test place ≡ true → (i : ℕ) →
    is_in (holders ++ place ∷ []) i ≡ (is_in holders i || (nat_eq i place && test i))
holder-is holders test place is i = elim (cases_eq i place) [
  | inl e ↦
      is_in-more holders place i ∙ ap (λ b. is_in holders i || b) (eq-eqb place i (sym e))
      ∙ sym (ap (λ b. is_in holders i || (b && test i)) (eq-eqb i place e) ∙ ap (λ b. is_in holders i || b) (ap test e ∙ is))
  | inr n ↦
      is_in-more holders place i ∙ ap (λ b. is_in holders i || b) (ne_eqb place i (λ q. n (sym q)))
      ∙ sym (ap (λ b. is_in holders i || (b && test i)) (ne_eqb i place n))
]

-- a place that doesn't pass the test is not listed
pub holder-not : (old test : ℕ → Bool) (place : ℕ) → test place ≡ false → (i : ℕ) → old i ≡ (old i || (nat_eq i place && test i))
holder-not old test place not i = elim (cases_eq i place) [
  | inl e ↦
      sym (ap (λ b. old i || (nat_eq i place && b)) (ap test e ∙ not) ∙ ap (λ b. old i || b) (and-false (nat_eq i place)) ∙ or-no (old i))
  | inr n ↦ sym (ap (λ b. old i || (b && test i)) (ne_eqb i place n) ∙ or-no (old i))
]

-- no place is walked yet
pub holders-none : (old test : ℕ → Bool) (i : ℕ) → old i ≡ (old i || (nat_lt 0 (times_listed [] i) && test i))
unfolding times_listed
holders-none old test i = sym (or-no (old i))

-- one place more is walked
pub holders-more : (old mid new test : ℕ → Bool) (done : List ℕ) (place : ℕ) →
    ((i : ℕ) → mid i ≡ (old i || (nat_lt 0 (times_listed done i) && test i))) → ((i : ℕ) → new i ≡ (mid i || (nat_eq i place && test i))) → (i : ℕ) →
    new i ≡ (old i || (nat_lt 0 (times_listed (done ++ place ∷ []) i) && test i))
holders-more old mid new test done place h g i = elim (cases_eq i place) [
  | inl e ↦
      let a : nat_lt 0 (times_listed (done ++ place ∷ []) i) ≡ true = below 0 _ (rw e (same-times done place)) in
      g i ∙ ap (λ b. mid i || (b && test i)) (eq-eqb i place e) ∙ ap (λ b. b || test i) (h i)
      ∙ twice (old i) (nat_lt 0 (times_listed done i)) (test i) ∙ sym (ap (λ b. old i || (b && test i)) a)
  | inr n ↦
      g i ∙ ap (λ b. mid i || (b && test i)) (ne_eqb i place n) ∙ or-no (mid i) ∙ h i
      ∙ ap (λ k. old i || (nat_lt 0 k && test i)) (sym (other-times done place i n))
]
  where
    twice : (o t b : Bool) → (o || (t && b) || b) ≡ (o || (true && b))
    twice true t b = refl
    twice false true true = refl
    twice false true false = refl
    twice false false b = refl

-- each place of a home is one of the few, or of the set
pub holders-all : (none few all : ℕ → Bool) (home : HomePlaces) (bound : ℕ) (has : ℕ → Bool) → ((i : ℕ) → none i ≡ false) →
    ((i : ℕ) → few i ≡ (none i || (has_few home i && (nat_lt i bound && has i)))) →
    ((i : ℕ) → all i ≡ (few i || (has_number home.more.others i && (nat_lt i bound && has i)))) → (i : ℕ) →
    all i ≡ (nat_lt i bound && (has_home home i && has i))
holders-all none few all home bound has e h g i =
    g i ∙ ap (λ b. b || (has_number home.more.others i && (nat_lt i bound && has i)))
    (h i ∙ ap (λ b. b || (has_few home i && (nat_lt i bound && has i))) (e i))
    ∙ by (has_few home i) (has_number home.more.others i) (nat_lt i bound) (has i)
    ∙ ap (λ b. nat_lt i bound && (b && has i)) (sym (home-is home i))
  where
    by : (f o l x : Bool) → (false || (f && (l && x)) || (o && (l && x))) ≡ (l && ((f || o) && x))
    by true true true true = refl
    by true true true false = refl
    by true true false x = refl
    by true false true true = refl
    by true false true false = refl
    by true false false x = refl
    by false true true x = refl
    by false true false x = refl
    by false false true x = refl
    by false false false x = refl

-- each holder is one of the few places, where the home has no set
pub holders-few : (none few : ℕ → Bool) (home : HomePlaces) (bound : ℕ) (has : ℕ → Bool) → ((i : ℕ) → none i ≡ false) →
    ((i : ℕ) → has_number home.more.others i ≡ false) → ((i : ℕ) → few i ≡ (none i || (has_few home i && (nat_lt i bound && has i)))) → (i : ℕ) →
    few i ≡ (nat_lt i bound && (has_home home i && has i))
holders-few none few home bound has e lacks h =
    holders-all none few few home bound has e h (λ i. sym (ap (λ b. few i || (b && (nat_lt i bound && has i))) (lacks i) ∙ or-no (few i)))

-- a vreg that is dropped at the few places and at the places of the set is dropped at the whole home
pub dropped-all : (old mid new : ℕ → ℕ → Bool) (home : HomePlaces) (bits size : ℕ) →
    ((i y : ℕ) → i < size → mid i y ≡ (if has_few home i && nat_eq y bits then false else old i y)) →
    ((i y : ℕ) → i < size → new i y ≡ (if has_number home.more.others i && nat_eq y bits then false else mid i y)) → (i y : ℕ) → i < size →
    new i y ≡ (if has_home home i && nat_eq y bits then false else old i y)
dropped-all old mid new home bits size h g i y l =
    g i y l ∙ ap (λ b. if has_number home.more.others i && nat_eq y bits then false else b) (h i y l)
    ∙ by (has_few home i) (has_number home.more.others i) (nat_eq y bits) (old i y)
    ∙ ap (λ b. if b && nat_eq y bits then false else old i y) (sym (home-is home i))
  where
    by : (f o e x : Bool) → (if o && e then false else (if f && e then false else x)) ≡ (if (f || o) && e then false else x)
    by true true true x = refl
    by true true false x = refl
    by true false e x = refl
    by false true true x = refl
    by false true false x = refl
    by false false e x = refl

-- a vreg that is dropped at the few places is dropped at the whole home, where the home has no set
pub dropped-few : (old mid : ℕ → ℕ → Bool) (home : HomePlaces) (bits size : ℕ) → ((i : ℕ) → has_number home.more.others i ≡ false) →
    ((i y : ℕ) → i < size → mid i y ≡ (if has_few home i && nat_eq y bits then false else old i y)) → (i y : ℕ) → i < size →
    mid i y ≡ (if has_home home i && nat_eq y bits then false else old i y)
dropped-few old mid home bits size lacks h =
    dropped-all old mid mid home bits size h (λ i y l. sym (ap (λ b. if b && nat_eq y bits then false else mid i y) (lacks i)))

-- homes (the places where a vreg may be) that stay are still there
pub homes-same : (homes : List HomePlaces) → AreMoreHomes homes homes
homes-same homes = record { long = refl; kept = λ j i e. e; saved = λ j i e. e }

-- homes that stay over two steps stay over both
pub homes-then : (a b c : List HomePlaces) → AreMoreHomes a b → AreMoreHomes b c → AreMoreHomes a c
homes-then a b c h g = record {
  long = g.long ∙ h.long;
  kept = λ j i e. g.kept j i (h.kept j i e);
  saved = λ j i e. g.saved j i (h.saved j i e);
}

-- with a place in a vreg's homes, it is one where the vreg may be
pub home-at : (vregs : List ℕ) (homes : List HomePlaces) (j place bits : ℕ) → IsStrictlyIncreasing vregs → j < length vregs → get_or vregs j 0 ≡ bits →
    has_home (get_or homes j no_homes) place ≡ true → IsHome vregs homes place bits
home-at vregs homes j place bits rises less is here k lk e =
    let q : k ≡ j = listed-once vregs rises k j lk less (e ∙ sym is) in
    ap (λ n. has_home (get_or homes n no_homes) place) q ∙ here

-- a place where a vreg may be is one still as homes are added
pub home-kept : (vregs : List ℕ) (old new : List HomePlaces) (place bits : ℕ) → AreMoreHomes old new → IsHome vregs old place bits →
    IsHome vregs new place bits
home-kept vregs old new place bits m h j less e = m.kept j place (h j less e)

-- a place where a saved table may hold a vreg is one still as homes are added
pub saved-home-kept : (vregs : List ℕ) (old new : List HomePlaces) (place bits : ℕ) → AreMoreHomes old new → IsSavedHome vregs old place bits →
    IsSavedHome vregs new place bits
saved-home-kept vregs old new place bits m h j less e = m.saved j place (h j less e)

-- one member more is noted
pub noted-more : (vregs : List ℕ) (old new : List HomePlaces) (members : List ℕ) (k place x : ℕ) → k < length members → x ≡ get_or members k 0 →
    AreMoreHomes old new → ((y : ℕ) → 0 < times_listed (take k members) y → IsHome vregs old place y) → IsHome vregs new place x → (y : ℕ) →
    0 < times_listed (take (k + 1) members) y → IsHome vregs new place y
noted-more vregs old new members k place x less e m h here y l =
    walked-more (λ y. IsHome vregs new place y) (take k members) x (λ z lz. home-kept vregs old new place z m (h z lz)) here y
    (subst (λ (xs : List ℕ). 0 < times_listed xs y) (take_more members k 0 less ∙ ap (λ n. take k members ++ n ∷ []) (sym e)) l)

-- what is held where some members were dropped was held before
pub dropped-had : (b x h : Bool) → h ≡ (if b then false else x) → h ≡ true → x ≡ true
dropped-had true x h e is = absurd (false≢true (sym e ∙ is))
dropped-had false x h e is = sym e ∙ is
