-- The more places of a home: adding one, saving the added places and dropping them.
use Rattle.std.proofs.Common.{inl, inr, ℕ, zero, suc, ◌≡◌, ◌+◌, ◌<◌, ◌≤◌, ◌%◌, arith, Bool, true, false, cond}
use Rattle.std.proofs.Common.{nat_eq, nat_lt, eq-eqb, List, [], ◌∷◌, ◌++◌, length, get_or, take, refl, sym, ap, ◌∙◌, subst}
use Rattle.std.specs.Prelude.{◌&&◌, ◌||◌, not, min, Option, None, Some, Result, OnOk, OnErr}
use Rattle.std.specs.Option.{is_some, option_map}
use Rattle.std.proofs.lemmas.Bool.{cases_eq, cases_lt, lt-ltb as below, true≢false}
use Rattle.std.proofs.lemmas.Bool.Decides.{nat_tests}
use Rattle.std.proofs.Math.Bool.{or-true}
use Rattle.std.proofs.Common.{length-take, take_all, take-take}
use Rattle.std.proofs.lemmas.List.{take_more}
use Rattle.std.proofs.lemmas.Nat.Bits.{bit_at-zero}
use Rattle.regalloc2_function.specs.Numbers.{NumberSet, has_number, word_of, times_listed}
use Rattle.regalloc2_checker_sets.specs.Homes.{MorePlaces, no_more, is_one_of, has_more, has_saved_more, set_in, IsMore, IsSaved}
use Rattle.regalloc2_checker_sets.proofs.Bits.{other-times, same-times}
use Rattle.regalloc2_checker_sets.proofs.Results.{less_either}
use Rattle.regalloc2_checker_sets.proofs.Walked.{times-append, times-nil}

-- an empty set has no number
pub empty-has : (i : ℕ) → has_number [] i ≡ false
unfolding has_number word_of
empty-has i = ap (λ k. nat_eq k 1) (bit_at-zero (i % 64))

-- where there is no set, it has no number
pub none-has : {X : Type 0} (value : X → NumberSet) (set : Option X) → is_some set ≡ false → (i : ℕ) → has_number (set_in (option_map value set)) i ≡ false
none-has value None e i = empty-has i
none-has value (Some x) e i = absurd (true≢false e)

-- a number is in two lists, one after the other, if it is in one of them
pub is-times : (xs ys : List ℕ) (i : ℕ) → is_one_of (xs ++ ys) i ≡ (is_one_of xs i || is_one_of ys i)
is-times xs ys i = ap (λ n. nat_lt 0 n) (times-append xs ys i) ∙ some (times_listed xs i) (times_listed ys i)
  where
    some : (a b : ℕ) → nat_lt 0 (a + b) ≡ (nat_lt 0 a || nat_lt 0 b)
    some a b = grind (arith, nat_tests)

-- an empty list has no number
pub one-none : (i : ℕ) → is_one_of [] i ≡ false
one-none i = ap (λ n. nat_lt 0 n) (times-nil i)

-- a list has each of its numbers
pub one-at : (ns : List ℕ) (k i : ℕ) → k < length ns → get_or ns k 0 ≡ i → is_one_of ns i ≡ true
unfolding times_listed
one-at [] k i less e = absurd (omega arith)
one-at (n ∷ ns) zero i less e = below 0 _ (rw (eq-eqb n i e) (omega arith))
one-at (n ∷ ns) (suc k) i less e = by (nat_eq n i) (times_listed ns i) (one-at ns k i (omega arith) e)
  where
    by : (b : Bool) (t : ℕ) → nat_lt 0 t ≡ true → nat_lt 0 (cond b 1 0 + t) ≡ true
    by b t h = grind (arith, nat_tests)

-- a number that a list lacks is none of its numbers
pub lacks-at : (ns : List ℕ) (k i : ℕ) → k < length ns → is_one_of ns i ≡ false → i ≡ get_or ns k 0 → ⊥
lacks-at ns k i less e is = true≢false (sym (one-at ns k i less (sym is)) ∙ e)

-- a list that ends in a number has it
pub one-last : (ns : List ℕ) (i : ℕ) → is_one_of (ns ++ i ∷ []) i ≡ true
one-last ns i = below 0 _ (same-times ns i)

-- a list that ends in another number
pub one-other : (ns : List ℕ) (x i : ℕ) → (i ≡ x → ⊥) → is_one_of (ns ++ x ∷ []) i ≡ is_one_of ns i
one-other ns x i n = ap (λ k. nat_lt 0 k) (other-times ns x i n)

-- the first numbers of a list, and one more
pub one-next : (ns : List ℕ) (k i : ℕ) → k < length ns → is_one_of (take k ns) i ≡ false → (get_or ns k 0 ≡ i → ⊥) → is_one_of (take (k + 1) ns) i ≡ false
one-next ns k i less e n =
    ap (λ (xs : List ℕ). is_one_of xs i) (take_more ns k 0 less) ∙ one-other (take k ns) (get_or ns k 0) i (λ q. n (sym q)) ∙ e

-- the first numbers of a list are of the list
one-of-first : (k : ℕ) (ns : List ℕ) (i : ℕ) → is_one_of (take k ns) i ≡ true → is_one_of ns i ≡ true
unfolding times_listed
one-of-first zero ns i is = absurd (true≢false (sym is))
one-of-first (suc k) [] i is = is
one-of-first (suc k) (n ∷ ns) i is = by (nat_eq n i) (times_listed (take k ns) i) (times_listed ns i) (one-of-first k ns i) is
  where
    by : (b : Bool) (s t : ℕ) → (nat_lt 0 s ≡ true → nat_lt 0 t ≡ true) → nat_lt 0 (cond b 1 0 + s) ≡ true → nat_lt 0 (cond b 1 0 + t) ≡ true
    by true s t h e = below 0 _ (omega arith)
    by false s t h e =
        let none : (n : ℕ) → 0 + n ≡ n = λ n. omega arith in
        subst (λ (n : ℕ). nat_lt 0 n ≡ true) (sym (none t)) (h (subst (λ (n : ℕ). nat_lt 0 n ≡ true) (none s) e))

-- the first numbers of a list are among as many of a longer one
one-of-longer : (k : ℕ) (ns ms : List ℕ) (i : ℕ) → is_one_of (take k ns) i ≡ true → is_one_of (take k (ns ++ ms)) i ≡ true
unfolding times_listed
one-of-longer zero ns ms i is = is
one-of-longer (suc k) [] ms i is = absurd (true≢false (sym is))
one-of-longer (suc k) (n ∷ ns) ms i is =
    by (nat_eq n i) (times_listed (take k ns) i) (times_listed (take k (ns ++ ms)) i) (one-of-longer k ns ms i) is
  where
    by : (b : Bool) (s t : ℕ) → (nat_lt 0 s ≡ true → nat_lt 0 t ≡ true) → nat_lt 0 (cond b 1 0 + s) ≡ true → nat_lt 0 (cond b 1 0 + t) ≡ true
    by true s t h e = below 0 _ (omega arith)
    by false s t h e =
        let none : (n : ℕ) → 0 + n ≡ n = λ n. omega arith in
        subst (λ (n : ℕ). nat_lt 0 n ≡ true) (sym (none t)) (h (subst (λ (n : ℕ). nat_lt 0 n ≡ true) (none s) e))

-- the first numbers of a list, once those past an end are gone
pub first-left : (ns : List ℕ) (len saved left : ℕ) → left ≡ min len saved → take left ns ≡ take saved (take len ns)
first-left ns len saved left e = elim (cases_lt len saved) [
  | inl l ↦
      ap (λ n. take n ns) (e ∙ min_left len saved l)
      ∙ sym (take_all saved (take len ns) (omega (arith, l, length-take len ns, min_low len (length ns))))
  | inr g ↦ ap (λ n. take n ns) (e ∙ min_right len saved g) ∙ sym (take-take saved len ns g)
]
  where
    min_left : (a b : ℕ) → a < b → min a b ≡ a
    min_left a b l = omega arith

    min_right : (a b : ℕ) → b ≤ a → min a b ≡ b
    min_right a b l = omega arith

    min_low : (a b : ℕ) → min a b ≤ a
    min_low a b = omega arith

-- a place is one of the numbers, or of the set
pub more-is : (m : MorePlaces) (i : ℕ) → has_more m i ≡ (is_one_of m.numbers i || has_number m.others i)
unfolding has_more
more-is m i = refl

-- there is no place in no more
pub none-more : (i : ℕ) → has_more no_more i ≡ false
unfolding has_more times_listed
none-more i = empty-has i

-- nor is one saved there
pub none-saved : (i : ℕ) → has_saved_more no_more i ≡ false
unfolding has_saved_more times_listed
none-saved i = ap (λ b. b && true) (empty-has i)

-- no more places have all that no places have
pub empty-more : (m n : MorePlaces) → ((i : ℕ) → has_more m i ≡ false) → ((i : ℕ) → has_saved_more m i ≡ false) → IsMore m n
empty-more m n h s = record {
  kept = λ i is. absurd (true≢false (sym is ∙ h i));
  saved = λ i is. absurd (true≢false (sym is ∙ s i));
}

-- what is the same has as much
pub same-more : (m : MorePlaces) → IsMore m m
same-more m = record { kept = λ i is. is; saved = λ i is. is }

-- what is added over two steps is added over both
pub more-then : (a b c : MorePlaces) → IsMore a b → IsMore b c → IsMore a c
more-then a b c h g = record { kept = λ i is. g.kept i (h.kept i is); saved = λ i is. g.saved i (h.saved i is) }

-- a saved place is one of more
pub saved-has : (m : MorePlaces) (i : ℕ) → has_saved_more m i ≡ true → has_more m i ≡ true
unfolding has_more has_saved_more
saved-has m i is =
    by (is_one_of (take m.saved m.numbers) i) (is_one_of m.numbers i) (has_number m.others i) (is_one_of m.added i) (one-of-first m.saved m.numbers i) is
  where
    by : (s n o a : Bool) → (s ≡ true → n ≡ true) → (s || (o && not a)) ≡ true → (n || o) ≡ true
    by true n o a h e = ap (λ b. b || o) (h refl)
    by false n true a h e = or-true n
    by false n false a h e = absurd (true≢false (sym e))

-- where the numbers are saved, and no place of the set was added, each place is saved
pub all-saved : (m : MorePlaces) → take m.saved m.numbers ≡ m.numbers → m.added ≡ [] → IsSaved m
unfolding has_more has_saved_more times_listed
all-saved m e n i is =
    ap (λ (ns : List ℕ). is_one_of ns i || (has_number m.others i && not (is_one_of m.added i))) e
    ∙ ap (λ (ns : List ℕ). is_one_of m.numbers i || (has_number m.others i && not (is_one_of ns i))) n
    ∙ by (is_one_of m.numbers i) (has_number m.others i) is
  where
    by : (a b : Bool) → (a || b) ≡ true → (a || (b && true)) ≡ true
    by true b h = refl
    by false true h = refl
    by false false h = h

-- the set has more
pub others-more : (m : MorePlaces) (others : NumberSet) → ((i : ℕ) → has_number m.others i ≡ true → has_number others i ≡ true) →
    IsMore m (record m { others = others })
unfolding has_more has_saved_more
others-more m others h = record {
  kept = λ i is. by (is_one_of m.numbers i) (has_number m.others i) (has_number others i) (h i) is;
  saved = λ i is. both (is_one_of (take m.saved m.numbers) i) (has_number m.others i) (has_number others i) (is_one_of m.added i) (h i) is;
}
  where
    by : (n a b : Bool) → (a ≡ true → b ≡ true) → (n || a) ≡ true → (n || b) ≡ true
    by true a b f e = refl
    by false a b f e = f e

    both : (n a b c : Bool) → (a ≡ true → b ≡ true) → (n || (a && not c)) ≡ true → (n || (b && not c)) ≡ true
    both true a b c f e = refl
    both false true b c f e = ap (λ x. x && not c) (f refl) ∙ e
    both false false b c f e = absurd (true≢false (sym e))

-- a place that isn't there is listed as added, and the set has more
pub others-added : (m : MorePlaces) (others : NumberSet) (added : List ℕ) (place : ℕ) → added ≡ m.added ++ place ∷ [] → has_more m place ≡ false →
    ((i : ℕ) → has_number m.others i ≡ true → has_number others i ≡ true) → IsMore m (record m { others = others; added = added })
unfolding has_more has_saved_more
others-added m others added place e absent h = record {
  kept = (others-more m others h).kept;
  saved = λ i is. elim (cases_eq i place) [
    | inl q ↦ absurd (true≢false (sym (saved-has m i is) ∙ ap (has_more m) q ∙ absent))
    | inr n ↦
        ap (λ (ns : List ℕ). is_one_of (take m.saved m.numbers) i || (has_number others i && not (is_one_of ns i))) e
        ∙ ap (λ b. is_one_of (take m.saved m.numbers) i || (has_number others i && not b)) (one-other m.added place i n)
        ∙ (others-more m others h).saved i is
  ];
}

-- a set to which a number is added, or which stays, has what it had
pub set-kept : {E : Type 0} (old new : NumberSet) (x : ℕ) (r : Result (Unit {0}) E) →
    OnOk r ((i : ℕ) → has_number new i ≡ cond (nat_eq i x) true (has_number old i)) → OnErr r ((i : ℕ) → has_number new i ≡ has_number old i) →
    (i : ℕ) → has_number old i ≡ true → has_number new i ≡ true
set-kept old new x r ok err i is =
    less_either _ _ (has_number new i ≡ true) r (λ h. h i ∙ ap (λ b. cond (nat_eq i x) true b) is ∙ always (nat_eq i x)) (λ h. h i ∙ is) ok err
  where
    always : (b : Bool) → cond b true true ≡ true
    always true = refl
    always false = refl

-- a set to which a number is added has it
pub set-added : (old new : NumberSet) (x : ℕ) → ((i : ℕ) → has_number new i ≡ cond (nat_eq i x) true (has_number old i)) → has_number new x ≡ true
set-added old new x h = h x ∙ ap (λ b. cond b true (has_number old x)) (eq-eqb x x refl)

-- a place of the set is one of more places
pub others-have : (m : MorePlaces) (i : ℕ) → has_number m.others i ≡ true → has_more m i ≡ true
unfolding has_more
others-have m i is = ap (λ b. is_one_of m.numbers i || b) is ∙ or-true (is_one_of m.numbers i)

-- a number is put at the end
pub numbers-more : (m : MorePlaces) (numbers : List ℕ) (place : ℕ) → numbers ≡ m.numbers ++ place ∷ [] → IsMore m (record m { numbers = numbers })
unfolding has_more has_saved_more
numbers-more m numbers place e = record {
  kept = λ i is.
      ap (λ (ns : List ℕ). is_one_of ns i || has_number m.others i) e
      ∙ ap (λ b. b || has_number m.others i) (is-times m.numbers (place ∷ []) i)
      ∙ by (is_one_of m.numbers i) (is_one_of (place ∷ []) i) (has_number m.others i) is;
  saved = λ i is.
      ap (λ (ns : List ℕ). is_one_of (take m.saved ns) i || (has_number m.others i && not (is_one_of m.added i))) e
      ∙ both (is_one_of (take m.saved m.numbers) i) (is_one_of (take m.saved (m.numbers ++ place ∷ [])) i) (has_number m.others i && not (is_one_of m.added i))
      (one-of-longer m.saved m.numbers (place ∷ []) i) is;
}
  where
    by : (a b c : Bool) → (a || c) ≡ true → ((a || b) || c) ≡ true
    by true b c h = refl
    by false b c h = ap (λ x. b || x) h ∙ or-true b

    both : (a b c : Bool) → (a ≡ true → b ≡ true) → (a || c) ≡ true → (b || c) ≡ true
    both true b c f h = ap (λ x. x || c) (f refl)
    both false b c f h = ap (λ x. b || x) h ∙ or-true b

-- the number is there
pub numbers-have : (m : MorePlaces) (numbers : List ℕ) (place : ℕ) → numbers ≡ m.numbers ++ place ∷ [] → has_more (record m { numbers = numbers }) place ≡ true
unfolding has_more
numbers-have m numbers place e =
    ap (λ (ns : List ℕ). is_one_of ns place || has_number m.others place) e ∙ ap (λ b. b || has_number m.others place) (one-last m.numbers place)

-- what was added is dropped
pub dropped-saved : (m : MorePlaces) (numbers : List ℕ) (others : NumberSet) → numbers ≡ take m.saved m.numbers →
    ((i : ℕ) → is_one_of m.added i ≡ false → has_number m.others i ≡ true → has_number others i ≡ true) → (i : ℕ) →
    has_saved_more m i ≡ true → has_saved_more (record m { numbers = numbers; others = others; added = [] }) i ≡ true
unfolding has_saved_more times_listed
dropped-saved m numbers others e h i is =
    ap (λ (ns : List ℕ). is_one_of (take m.saved ns) i || (has_number others i && true)) e
    ∙ ap (λ (ns : List ℕ). is_one_of ns i || (has_number others i && true)) (take-take m.saved m.saved m.numbers (omega arith))
    ∙ by (is_one_of (take m.saved m.numbers) i) (has_number m.others i) (is_one_of m.added i) (has_number others i) (h i) is
  where
    by : (s o a n : Bool) → (a ≡ false → o ≡ true → n ≡ true) → (s || (o && not a)) ≡ true → (s || (n && true)) ≡ true
    by true o a n f e = refl
    by false true false n f e = ap (λ b. b && true) (f refl refl)
    by false true true n f e = absurd (true≢false (sym e))
    by false false a n f e = absurd (true≢false (sym e))
