-- The places of a vreg's homes: adding one, and walks over them.
use Rattle.std.proofs.Common.{inl, inr, ℕ, ◌≡◌, ◌⊎◌, ◌*◌, ◌%◌, ◌<◌, ◌^◌, arith, Bool, true, false, cond, bit_or, w32}
use Rattle.std.proofs.Common.{nat_eq, nat_lt, eq-eqb, List, [], ◌∷◌, ◌++◌, refl, sym, ap, ◌∙◌, append_assoc}
use Rattle.std.specs.Prelude.{◌&&◌, ◌||◌, if◌then◌else◌}
use Rattle.std.specs.Int.{bit_at}
use Rattle.std.proofs.lemmas.Bool.{cases_eq, lt-ltb as below, ne_eqb}
use Rattle.std.proofs.lemmas.Bool.Decides.{nat_tests}
use Rattle.std.proofs.lemmas.List.{append-nil}
use Rattle.std.proofs.lemmas.Nat.Bits.{bit_at-lt, bit_at-zero, bit_at_set_same, bit_at_set_other}
use Rattle.regalloc2_function.specs.Numbers.{has_number, times_listed}
use Rattle.regalloc2_checker_sets.specs.Homes.{MorePlaces, HomePlaces, no_more, place_list, stands_for}
use Rattle.regalloc2_checker_sets.specs.Homes.{is_one_of, is_first, has_more, has_saved_more, has_few, has_home, has_saved}
use Rattle.regalloc2_checker_sets.proofs.MoreLaws.{is-times, saved-has}
use Rattle.regalloc2_checker_sets.proofs.Walked.{times-one, times-nil}

-- the place of a number is listed
place-times : (n i : ℕ) → nat_lt 0 (times_listed (place_list n) i) ≡ stands_for n i
place-times n i = by (nat_lt 0 n)
  where
    one : (b : Bool) → nat_lt 0 (cond b 1 0) ≡ b
    one true = refl
    one false = refl

    turned : nat_eq n i ≡ nat_eq i n
    turned = grind (arith, nat_tests)

    by : (b : Bool) → nat_lt 0 (times_listed (if b then n ∷ [] else []) i) ≡ (b && nat_eq i n)
    by true = ap (λ k. nat_lt 0 k) (times-one n i) ∙ one (nat_eq n i) ∙ turned
    by false = ap (λ k. nat_lt 0 k) (times-nil i)

-- the few places are listed: of the mask, of the two numbers, and of more numbers
pub few-listed : (h : HomePlaces) (low : List ℕ) → ((i : ℕ) → times_listed low i ≡ bit_at h.low i) → (i : ℕ) →
    nat_lt 0 (times_listed (low ++ (place_list h.first ++ (place_list h.second ++ h.more.numbers))) i) ≡ has_few h i
unfolding has_few is_first
few-listed h low hl i =
    is-times low (place_list h.first ++ (place_list h.second ++ h.more.numbers)) i
    ∙ ap (λ b. b || nat_lt 0 (times_listed (place_list h.first ++ (place_list h.second ++ h.more.numbers)) i))
    (ap (λ k. nat_lt 0 k) (hl i) ∙ bit (bit_at h.low i) (bit_at-lt h.low i))
    ∙ ap (λ b. nat_eq (bit_at h.low i) 1 || b) (is-times (place_list h.first) (place_list h.second ++ h.more.numbers) i
    ∙ ap (λ b. b || nat_lt 0 (times_listed (place_list h.second ++ h.more.numbers) i)) (place-times h.first i)
    ∙ ap (λ b. stands_for h.first i || b) (is-times (place_list h.second) h.more.numbers i
    ∙ ap (λ b. b || is_one_of h.more.numbers i) (place-times h.second i)))
    ∙ by (nat_eq (bit_at h.low i) 1) (stands_for h.first i) (stands_for h.second i) (is_one_of h.more.numbers i)
  where
    bit : (n : ℕ) → n < 2 → nat_lt 0 n ≡ nat_eq n 1
    bit n less = grind (arith, nat_tests)

    by : (a b c d : Bool) → (a || (b || (c || d))) ≡ (a || (b || c) || d)
    by true b c d = refl
    by false true c d = refl
    by false false c d = refl

-- no place of an empty mask, of two numbers that are 0, and of no more
pub few-none : (h : HomePlaces) → h.low ≡ 0 → h.first ≡ 0 → h.second ≡ 0 → h.more ≡ no_more → (i : ℕ) → has_few h i ≡ false
unfolding has_few is_first times_listed
few-none h l f s m i =
    ap (λ n. nat_eq (bit_at n i) 1 || (stands_for h.first i || stands_for h.second i) || is_one_of h.more.numbers i) l
    ∙ ap (λ n. nat_eq (bit_at 0 i) 1 || (stands_for n i || stands_for h.second i) || is_one_of h.more.numbers i) f
    ∙ ap (λ n. nat_eq (bit_at 0 i) 1 || (false || stands_for n i) || is_one_of h.more.numbers i) s
    ∙ ap (λ (p : MorePlaces). nat_eq (bit_at 0 i) 1 || (false || false) || is_one_of p.numbers i) m
    ∙ ap (λ k. nat_eq k 1 || (false || false) || false) (bit_at-zero i)

-- a walk that is one place on
pub few-walked : (h : HomePlaces) (done left rest : List ℕ) (x : ℕ) → ((i : ℕ) → nat_lt 0 (times_listed (done ++ left) i) ≡ has_few h i) → left ≡ x ∷ rest →
    (i : ℕ) → nat_lt 0 (times_listed ((done ++ x ∷ []) ++ rest) i) ≡ has_few h i
few-walked h done left rest x all e i =
    ap (λ (l : List ℕ). nat_lt 0 (times_listed l i)) (append_assoc done (x ∷ []) rest ∙ ap (λ (l : List ℕ). done ++ l) (sym e)) ∙ all i

-- a walk that is over
pub few-ended : (h : HomePlaces) (done left : List ℕ) → ((i : ℕ) → nat_lt 0 (times_listed (done ++ left) i) ≡ has_few h i) → left ≡ [] → (i : ℕ) →
    nat_lt 0 (times_listed done i) ≡ has_few h i
few-ended h done left all e i =
    ap (λ (l : List ℕ). nat_lt 0 (times_listed l i)) (sym (append-nil done) ∙ ap (λ (l : List ℕ). done ++ l) (sym e)) ∙ all i

-- a place is one of the few, or of the set
pub home-is : (h : HomePlaces) (i : ℕ) → has_home h i ≡ (has_few h i || has_number h.more.others i)
unfolding has_home
home-is h i = refl

-- a place is one of the first, or of more
pub home-split : (h : HomePlaces) (i : ℕ) → has_home h i ≡ (is_first h.low h.first h.second i || has_more h.more i)
unfolding has_home has_few has_more
home-split h i = by (is_first h.low h.first h.second i) (is_one_of h.more.numbers i) (has_number h.more.others i)
  where
    by : (a b c : Bool) → (a || b || c) ≡ (a || (b || c))
    by true b c = refl
    by false b c = refl

-- a saved place is one of the first, or of more that were saved
pub saved-split : (h : HomePlaces) (i : ℕ) → has_saved h i ≡ (is_first h.low h.first h.second i || has_saved_more h.more i)
unfolding has_saved
saved-split h i = refl

-- a saved place is one of the home
pub saved-is-home : (h : HomePlaces) (i : ℕ) → has_saved h i ≡ true → has_home h i ≡ true
saved-is-home h i is =
    home-split h i
    ∙ by (is_first h.low h.first h.second i) (has_saved_more h.more i) (has_more h.more i) (saved-has h.more i) (sym (saved-split h i) ∙ is)
  where
    by : (a b c : Bool) → (b ≡ true → c ≡ true) → (a || b) ≡ true → (a || c) ≡ true
    by true b c f e = refl
    by false b c f e = f e

-- a number stands for a place, in place of none or of the same
number-put : (had n i : ℕ) → 0 < n → (had ≡ 0) ⊎ (had ≡ n) → stands_for n i ≡ cond (nat_eq i n) true (stands_for had i)
number-put had n i some room = ap (λ b. b && nat_eq i n) (below 0 n some) ∙ elim room [
  | inl e ↦ none (nat_eq i n) ∙ ap (λ m. cond (nat_eq i n) true (stands_for m i)) (sym e)
  | inr e ↦
      same (nat_eq i n) ∙ ap (λ b. cond (nat_eq i n) true (b && nat_eq i n)) (sym (below 0 n some))
      ∙ ap (λ m. cond (nat_eq i n) true (stands_for m i)) (sym e)
]
  where
    none : (e : Bool) → (true && e) ≡ cond e true false
    none true = refl
    none false = refl

    same : (e : Bool) → (true && e) ≡ cond e true (true && e)
    same true = refl
    same false = refl

-- a place is added to the mask
pub first-low : (low first second place : ℕ) → place < 32 → (i : ℕ) →
    is_first (bit_or low (1 * 2 ^ place % 2 ^ 32)) first second i ≡ cond (nat_eq i place) true (is_first low first second i)
unfolding is_first
first-low low first second place small i = elim (cases_eq i place) [
  | inl e ↦
      ap (λ b. b || (stands_for first i || stands_for second i))
      (ap (λ n. nat_eq (bit_at (bit_or low (1 * 2 ^ place % 2 ^ 32)) n) 1) e ∙ eq-eqb _ 1 (bit_at_set_same w32 low place small))
      ∙ sym (ap (λ b. cond b true (is_first low first second i)) (eq-eqb i place e))
  | inr n ↦
      ap (λ k. nat_eq k 1 || (stands_for first i || stands_for second i)) (bit_at_set_other w32 low place small i n)
      ∙ sym (ap (λ b. cond b true (is_first low first second i)) (ne_eqb i place n))
]

-- a place is added as the first of the two
pub first-first : (low first second place : ℕ) → 0 < place → (first ≡ 0) ⊎ (first ≡ place) → (i : ℕ) →
    is_first low place second i ≡ cond (nat_eq i place) true (is_first low first second i)
unfolding is_first
first-first low first second place some room i =
    ap (λ b. nat_eq (bit_at low i) 1 || (b || stands_for second i)) (number-put first place i some room)
    ∙ by (nat_eq (bit_at low i) 1) (nat_eq i place) (stands_for first i) (stands_for second i)
  where
    by : (a e f s : Bool) → (a || (cond e true f || s)) ≡ cond e true (a || (f || s))
    by true true f s = refl
    by true false f s = refl
    by false true f s = refl
    by false false f s = refl

-- a place is added as the second of the two
pub first-second : (low first second place : ℕ) → 0 < place → (second ≡ 0) ⊎ (second ≡ place) → (i : ℕ) →
    is_first low first place i ≡ cond (nat_eq i place) true (is_first low first second i)
unfolding is_first
first-second low first second place some room i =
    ap (λ b. nat_eq (bit_at low i) 1 || (stands_for first i || b)) (number-put second place i some room)
    ∙ by (nat_eq (bit_at low i) 1) (nat_eq i place) (stands_for first i) (stands_for second i)
  where
    by : (a e f s : Bool) → (a || (f || cond e true s)) ≡ cond e true (a || (f || s))
    by true true f s = refl
    by true false f s = refl
    by false true true s = refl
    by false true false s = refl
    by false false f s = refl
