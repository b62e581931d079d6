-- Lemmas on a list of moves that is sorted, and then freed of repeats and of moves that change nothing.
use Rattle.std.proofs.Common.{◌≡◌, ℕ, suc, zero, ◌+◌, ◌<◌, ◌≤◌, ◌==◌, Bool, true, false, not, List, [], ◌∷◌, get_or, ◌⊎◌, refl, sym, ap, ◌∙◌, subst, inl, inr}
use Rattle.std.proofs.Common.{⊎_elim, arith}
use Rattle.std.proofs.lemmas.Bool.{cond_both, cases_eq, cases_lt}
use Rattle.std.proofs.lemmas.Bool.Decides.{nat_tests}
use Rattle.std.proofs.lemmas.Cmp.{nat_eq_equiv, on_equiv}
use Rattle.std.proofs.lemmas.List.Elements.{All-nil, All-cons, All-weaker, Contains-get_or}
use Rattle.std.proofs.lemmas.List.Kept.{AllPairs-cons, AllPairs-filter, Any-dedup, Contains-from_dedup}
use Rattle.std.proofs.lemmas.List.Sorted.{Contains-permutation, IsPermutation-sym}
use Rattle.std.specs.List.{All, AllPairs, Contains, Any, filter, dedup, dedup_from}
use Rattle.std.specs.List.Sorted.{IsNonDecreasingBy, IsPermutation}
use Rattle.std.specs.List.Retain.{RetainsInTurn}
use Rattle.std.proofs.Common.{cond, length}
use Rattle.std.proofs.lemmas.List.{get_or-map, get_or_default, length-map}
use Rattle.std.proofs.lemmas.List.Sorted.{IsPermutation-map}
use Rattle.regalloc2_names.specs.Place.{Place}
use Rattle.regalloc2_names.specs.PlaceBits.{bits_of_place}
use Rattle.regalloc2_parts.specs.AtOnce.{Ends, ends, ends_of, no_move}
use Rattle.regalloc2_parts.specs.Giving.{from_at, to_at, AreMovesApart, AreProper, Below, IsTidied, AreFair}
use Rattle.regalloc2_parts.proofs.Places.{same_word}

-- the places written never fall, from k on
Rises : Ends → List Ends → Type 0
Rises k [] = Unit {0}
Rises k (x ∷ xs) = (bits_of_place k.to ≤ bits_of_place x.to) × Rises x xs

rises_from : (j k : Ends) (xs : List Ends) → bits_of_place j.to ≤ bits_of_place k.to → Rises k xs → Rises j xs
unfolding Rises
rises_from j k [] le up = tt
rises_from j k (x ∷ xs) le up = let high : bits_of_place k.to ≤ bits_of_place x.to = up.0 in (omega arith, up.1)

rises : (k : Ends) (xs : List Ends) → IsNonDecreasingBy (λ (m : Ends). bits_of_place m.to) (k ∷ xs) → Rises k xs
unfolding Rises
rises k [] up = tt
rises k (x ∷ xs) up = (up 0 1 no_move (omega arith) (omega arith), rises x xs (λ i j d le r. up (suc i) (suc j) d (omega arith) (omega arith)))

strict_from : (k : Ends) (xs : List Ends) → Rises k xs → AllPairs Below (dedup_from (λ (x y : Ends). bits_of_place x.to == bits_of_place y.to) k xs)
    × All (λ (m : Ends). bits_of_place k.to ≤ bits_of_place m.to) (dedup_from (λ (x y : Ends). bits_of_place x.to == bits_of_place y.to) k xs)
unfolding Rises
strict_from k [] up = (
  (λ i j d o r. absurd (omega arith)),
  All-cons (λ (m : Ends). bits_of_place k.to ≤ bits_of_place m.to) k [] (omega arith)
      (All-nil (λ (m : Ends). bits_of_place k.to ≤ bits_of_place m.to)),
)
strict_from k (x ∷ xs) up =
    let same : Ends → Ends → Bool = λ x y. bits_of_place x.to == bits_of_place y.to in
    cond_both (bits_of_place x.to == bits_of_place k.to) (dedup_from same k xs) (k ∷ dedup_from same x xs)
    (λ ys. AllPairs Below ys × All (λ (m : Ends). bits_of_place k.to ≤ bits_of_place m.to) ys)
    (λ e. strict_from k xs (rises_from k x xs up.0 up.1))
    (λ e.
    let step : bits_of_place k.to ≤ bits_of_place x.to = up.0 in
    let less : bits_of_place k.to < bits_of_place x.to = grind (arith, nat_tests) in
    let later : AllPairs Below (dedup_from same x xs) × All (λ (m : Ends). bits_of_place x.to ≤ bits_of_place m.to) (dedup_from same x xs) = strict_from x xs
    up.1 in
    let above : All (λ (m : Ends). bits_of_place k.to < bits_of_place m.to) (dedup_from same x xs) =
    All-weaker (λ (m : Ends). bits_of_place x.to ≤ bits_of_place m.to) (λ (m : Ends). bits_of_place k.to < bits_of_place m.to) (λ m le. omega arith)
    (dedup_from same x xs) later.1 in (
      AllPairs-cons Below k (dedup_from same x xs) above later.0,
      All-cons (λ (m : Ends). bits_of_place k.to ≤ bits_of_place m.to) k (dedup_from same x xs) (omega arith)
          (All-weaker (λ (m : Ends). bits_of_place k.to < bits_of_place m.to) (λ (m : Ends). bits_of_place k.to ≤ bits_of_place m.to) (λ m lt. omega arith)
          (dedup_from same x xs) above),
    ))

-- a list of moves sorted by destination, without neighbours that share one, has strictly rising destinations
pub strict_dedup : (xs : List Ends) → IsNonDecreasingBy (λ (m : Ends). bits_of_place m.to) xs →
    AllPairs Below (dedup (λ (x y : Ends). bits_of_place x.to == bits_of_place y.to) xs)
strict_dedup [] up = λ i j d o r. absurd (omega arith)
strict_dedup (x ∷ xs) up = (strict_from x xs (rises x xs up)).0

-- a member of a list is its first item or a member of the rest
pub contains_cases : {M : Type 0} (x y : M) (xs : List M) → Contains (x ∷ xs) y → (x ≡ y) ⊎ Contains xs y
contains_cases x y xs (zero, r, e) = inl e
contains_cases x y xs (suc k, r, e) = inr (k, omega arith, e)

-- a nonempty list has its first item as a member
pub contains_here : {M : Type 0} (x : M) (xs : List M) → Contains (x ∷ xs) x
contains_here x xs = (0, omega arith, refl)

-- a member of a list is a member of the list with one more item in front
pub contains_there : {M : Type 0} (x y : M) (xs : List M) → Contains xs y → Contains (x ∷ xs) y
contains_there x y xs (k, r, e) = (suc k, omega arith, e)

-- a member of a filtered list is a member of the list, and passes the test
pub contains_from_filter : {M : Type 0} (p : M → Bool) (xs : List M) (y : M) → Contains (filter p xs) y → Contains xs y × (p y ≡ true)
contains_from_filter p [] y = λ h. let r : h.0 < 0 = h.1 in absurd (omega arith)
contains_from_filter p (x ∷ xs) y =
    cond_both (p x) (x ∷ filter p xs) (filter p xs) (λ ys. Contains ys y → Contains (x ∷ xs) y × (p y ≡ true))
    (λ e h. ⊎_elim
    (λ same. (subst (λ z. Contains (x ∷ xs) z) same (contains_here x xs), ap p (sym same) ∙ e))
    (λ later. let old : Contains xs y × (p y ≡ true) = contains_from_filter p xs y later in (contains_there x y xs old.0, old.1))
    (contains_cases x y (filter p xs) h))
    (λ e h. let old : Contains xs y × (p y ≡ true) = contains_from_filter p xs y h in (contains_there x y xs old.0, old.1))

-- a member of a list that passes the test is a member of the filtered list
pub contains_filter : {M : Type 0} (p : M → Bool) (xs : List M) (y : M) → p y ≡ true → Contains xs y → Contains (filter p xs) y
contains_filter p [] y t (k, r, e) = absurd (omega arith)
contains_filter p (x ∷ xs) y t h =
    cond_both (p x) (x ∷ filter p xs) (filter p xs) (λ ys. Contains ys y)
    (λ e. ⊎_elim
    (λ same. subst (λ z. Contains (x ∷ filter p xs) z) same (contains_here x (filter p xs)))
    (λ later. contains_there x y (filter p xs) (contains_filter p xs y t later))
    (contains_cases x y xs h))
    (λ e. ⊎_elim
    (λ same. let no : true ≡ false = sym t ∙ ap p (sym same) ∙ e in absurd (grind arith))
    (λ later. contains_filter p xs y t later)
    (contains_cases x y xs h))

-- two moves with the same source and the same destination are equal
pub same_ends : (a b : Ends) → a.from ≡ b.from → a.to ≡ b.to → a ≡ b
same_ends a b e f = parts a.from b.from a.to b.to e f
  where
    parts : (p q r s : Place) → p ≡ q → r ≡ s → ◌≡◌ {A = Ends} (record { from = p; to = r }) (record { from = q; to = s })
    parts p q r s e f = rw (e, f) refl

-- where no call changes the test or the element, `retain` leaves what passes the test
pub retained : {M F : Type 0} (R : F → M → Bool → F → M → Type 0) (test : M → Bool) (f : F) →
    ((x : M) (b : Bool) (g : F) (y : M) → R f x b g y → (b ≡ test x) × (g ≡ f) × (y ≡ x)) → (xs ys : List M) → RetainsInTurn R f xs ys → ys ≡ filter test xs
retained R test f says [] ys h = h
retained R test f says (x ∷ xs) ys h =
    let said = says x h.0 h.1 h.2 h.3 in
    let rest = retained R test f says xs h.4 (subst (λ g. RetainsInTurn R g xs h.4) said.1 h.5) in
    h.6 ∙ (λ i. cond (said.0 i) (said.2 i ∷ rest i) (rest i))

-- sorting moves by destination and dropping repeats and moves of a place to itself leaves the changes among them, each once
pub tidies : (old sorted new : List Ends) → AreProper old → AreFair old → IsPermutation old sorted →
    IsNonDecreasingBy (λ (m : Ends). bits_of_place m.to) sorted → new ≡ filter (λ (m : Ends). not (bits_of_place m.from == bits_of_place m.to))
    (dedup (λ (x y : Ends). bits_of_place x.to == bits_of_place y.to) sorted) → IsTidied old new
tidies old sorted new proper fair perm up e =
    let same : Ends → Ends → Bool = λ x y. bits_of_place x.to == bits_of_place y.to in
    let p : Ends → Bool = λ m. not (bits_of_place m.from == bits_of_place m.to) in
    let once : List Ends = dedup same sorted in
    let back : (m : Ends) → Contains (filter p once) m → Contains old m =
    λ m h. Contains-permutation sorted old m (IsPermutation-sym old sorted perm) (Contains-from_dedup same sorted m (contains_from_filter p once m h).0) in
    subst (λ xs. IsTidied old xs) (sym e) (record {
      strict = AllPairs-filter Below p once (strict_dedup sorted up);
      away = λ m h f. let t : not (bits_of_place m.from == bits_of_place m.to) ≡ true = (contains_from_filter p once m h).1 in
          let g : bits_of_place m.from ≡ bits_of_place m.to = ap bits_of_place f in grind (arith, nat_tests);
      of_old = back;
      of_new = λ m h n.
          let some : Any (λ y. same m y ≡ true) once = Any-dedup (on_equiv (λ (m : Ends). bits_of_place m.to) nat_eq_equiv) sorted m
          (Contains-permutation old sorted m perm h) in
          let y : Ends = some.1 in
          let alike : same m y ≡ true = some.4 in
          let words : bits_of_place y.to ≡ bits_of_place m.to = grind (arith, nat_tests) in
          let inside : Contains once y = subst (λ z. Contains once z) some.3 (Contains-get_or once some.0 y some.2) in
          let in_old : Contains old y = Contains-permutation sorted old y (IsPermutation-sym old sorted perm) (Contains-from_dedup same sorted y inside) in
          let to_is : y.to ≡ m.to = same_word y.to m.to (proper y in_old).1 (proper m h).1 words in
          let from_is : y.from ≡ m.from = fair.one_source y m in_old h to_is in
          let other : bits_of_place y.from ≡ bits_of_place y.to → ⊥ = λ f. n
          (sym from_is ∙ same_word y.from y.to (proper y in_old).0 (proper y in_old).1 f ∙ to_is) in
          let t : p y ≡ true = grind (arith, nat_tests) in
          subst (λ z. Contains (filter p once) z) (same_ends y m from_is to_is) (contains_filter p once y t inside);
    })

-- of the first k moves, each writes a place of a higher encoding than the one before, and none is to its own source
pub record IsTidyTo (ms : List Ends) (last k : ℕ) : Type 0 where
  pub rising : (i j : ℕ) → i < j → j < k → bits_of_place (to_at ms i) < bits_of_place (to_at ms j)
  pub below : (i : ℕ) → i < k → bits_of_place (to_at ms i) ≤ last
  pub away : (i : ℕ) → i < k → bits_of_place (from_at ms i) ≡ bits_of_place (to_at ms i) → ⊥

pub tidy_more : (ms : List Ends) (last k : ℕ) → IsTidyTo ms last k → last < bits_of_place (to_at ms k) →
    (bits_of_place (from_at ms k) ≡ bits_of_place (to_at ms k) → ⊥) → IsTidyTo ms (bits_of_place (to_at ms k)) (k + 1)
tidy_more ms last k had high other = record {
  rising = λ i j o r. ⊎_elim
      (λ here. subst (λ x. bits_of_place (to_at ms i) < bits_of_place (to_at ms x)) (sym here)
      (let low : bits_of_place (to_at ms i) ≤ last = had.below i (omega arith) in omega arith))
      (λ n. had.rising i j o (omega arith))
      (cases_eq j k);
  below = λ i r. ⊎_elim
      (λ here. subst (λ x. bits_of_place (to_at ms x) ≤ bits_of_place (to_at ms k)) (sym here) (omega arith))
      (λ n. let low : bits_of_place (to_at ms i) ≤ last = had.below i (omega arith) in omega arith)
      (cases_eq i k);
  away = λ i r. ⊎_elim
      (λ here. subst (λ x. bits_of_place (from_at ms x) ≡ bits_of_place (to_at ms x) → ⊥) (sym here) other)
      (λ n. had.away i (omega arith))
      (cases_eq i k);
}

-- a list that is tidy to its end is as it would be after tidying
pub tidy_whole : (ms : List Ends) (last k : ℕ) → IsTidyTo ms last k → length ms ≤ k → IsTidied ms ms
tidy_whole ms last k had end = record {
  strict = λ i j d o r.
      let at_i : to_at ms i ≡ (get_or ms i d).to = ap (λ (m : Ends). m.to) (get_or_default ms i no_move d (omega arith)) in
      let at_j : to_at ms j ≡ (get_or ms j d).to = ap (λ (m : Ends). m.to) (get_or_default ms j no_move d r) in
      let low : bits_of_place (to_at ms i) < bits_of_place (to_at ms j) = had.rising i j o (omega arith) in
      subst (λ p. bits_of_place p < bits_of_place (get_or ms j d).to) at_i
      (subst (λ p. bits_of_place (to_at ms i) < bits_of_place p) at_j low);
  away = λ m h e.
      let is : get_or ms h.0 no_move ≡ m = get_or_default ms h.0 no_move m h.1 ∙ h.2 in
      had.away h.0 (let low : h.0 < length ms = h.1 in omega arith)
      (ap (λ (x : Ends). bits_of_place x.from) is ∙ ap bits_of_place e ∙ ap (λ (x : Ends). bits_of_place x.to) (sym is));
  of_old = λ m h. h;
  of_new = λ m h n. h;
}

-- sorting alone tidies a list, if the sorted one is tidy
pub tidied_permuted : (old new : List Ends) → IsPermutation old new → IsTidied new new → IsTidied old new
tidied_permuted old new perm is = record {
  strict = is.strict;
  away = is.away;
  of_old = λ m h. Contains-permutation new old m (IsPermutation-sym old new perm) h;
  of_new = λ m h n. Contains-permutation old new m perm h;
}

-- in a tidied list each place has one writer, and no move goes from a place to itself or names `none`
pub tidied_apart : (old new : List Ends) → AreFair old → IsTidied old new → AreMovesApart new
tidied_apart old new fair is = record {
  one_writer = λ j k rj rk e. ⊎_elim
      (λ same. same)
      (λ n. ⊎_elim
      (λ lt. let low : bits_of_place (to_at new j) < bits_of_place (to_at new k) = is.strict j k no_move lt rk in
      let f : bits_of_place (to_at new j) ≡ bits_of_place (to_at new k) = ap bits_of_place e in absurd (omega arith))
      (λ ge. let high : bits_of_place (to_at new k) < bits_of_place (to_at new j) = is.strict k j no_move (omega arith) rj in
      let f : bits_of_place (to_at new j) ≡ bits_of_place (to_at new k) = ap bits_of_place e in absurd (omega arith))
      (cases_lt j k))
      (cases_eq j k);
  from_some = λ k r e. (fair.real (get_or new k no_move) (is.of_old (get_or new k no_move) (Contains-get_or new k no_move r))).0 e;
  to_some = λ k r e. (fair.real (get_or new k no_move) (is.of_old (get_or new k no_move) (Contains-get_or new k no_move r))).1 e;
  away = λ k r e. is.away (get_or new k no_move) (Contains-get_or new k no_move r) e;
}

-- the ends of a list of moves that is sorted, freed of repeats and filtered
module _ {T : Type 0} where
  sorted_ends : (xs : List (Place × Place × T)) → IsNonDecreasingBy (λ (m : Place × Place × T). bits_of_place m.1) xs →
      IsNonDecreasingBy (λ (m : Ends). bits_of_place m.to) (ends_of xs)
  sorted_ends [] up i j d le r = omega arith
  sorted_ends (x ∷ xs) up i j d le r =
      let many : length (ends_of (x ∷ xs)) ≡ length (x ∷ xs) = length-map (x ∷ xs) ends in
      subst (λ (a : Ends). bits_of_place a.to ≤ bits_of_place (get_or (ends_of (x ∷ xs)) j d).to) (sym (get_or-map ends (x ∷ xs) i x d (omega arith)))
      (subst (λ (b : Ends). bits_of_place (get_or (x ∷ xs) i x).1 ≤ bits_of_place b.to) (sym (get_or-map ends (x ∷ xs) j x d (omega arith)))
      (up i j x le (omega arith)))

  cond_ends : (b : Bool) (xs ys : List (Place × Place × T)) → ends_of (cond b xs ys) ≡ cond b (ends_of xs) (ends_of ys)
  cond_ends true xs ys = refl
  cond_ends false xs ys = refl

  dedup_from_ends : (k : Place × Place × T) (xs : List (Place × Place × T)) →
      ends_of (dedup_from (λ x y. bits_of_place x.1 == bits_of_place y.1) k xs) ≡ dedup_from (λ x y. bits_of_place x.to == bits_of_place y.to) (ends k)
      (ends_of xs)
  dedup_from_ends k [] = refl
  dedup_from_ends k (x ∷ xs) =
      let same : Place × Place × T → Place × Place × T → Bool = λ x y. bits_of_place x.1 == bits_of_place y.1 in
      cond_ends (bits_of_place x.1 == bits_of_place k.1) (dedup_from same k xs) (k ∷ dedup_from same x xs) ∙
      rw (dedup_from_ends k xs, dedup_from_ends x xs) refl

  dedup_ends : (xs : List (Place × Place × T)) → ends_of (dedup (λ x y. bits_of_place x.1 == bits_of_place y.1) xs) ≡ dedup
      (λ x y. bits_of_place x.to == bits_of_place y.to) (ends_of xs)
  dedup_ends [] = refl
  dedup_ends (x ∷ xs) = dedup_from_ends x xs

  filter_ends : (xs : List (Place × Place × T)) → ends_of (filter (λ m. not (bits_of_place m.0 == bits_of_place m.1)) xs) ≡ filter
      (λ m. not (bits_of_place m.from == bits_of_place m.to)) (ends_of xs)
  filter_ends [] = refl
  filter_ends (x ∷ xs) =
      let p : Place × Place × T → Bool = λ m. not (bits_of_place m.0 == bits_of_place m.1) in
      cond_ends (p x) (x ∷ filter p xs) (filter p xs) ∙ rw (filter_ends xs) refl

  -- moves sorted by destination, without repeats and without moves from a place to itself, are the tidied ones
  pub tidies_ends : (old sorted new : List (Place × Place × T)) → AreProper (ends_of old) → AreFair (ends_of old) → IsPermutation old sorted →
      IsNonDecreasingBy (λ (m : Place × Place × T). bits_of_place m.1) sorted →
      new ≡ filter (λ (m : Place × Place × T). not (bits_of_place m.0 == bits_of_place m.1))
      (dedup (λ (x y : Place × Place × T). bits_of_place x.1 == bits_of_place y.1) sorted) → IsTidied (ends_of old) (ends_of new)
  tidies_ends old sorted new proper fair perm up e =
      let same : Place × Place × T → Place × Place × T → Bool = λ x y. bits_of_place x.1 == bits_of_place y.1 in
      tidies (ends_of old) (ends_of sorted) (ends_of new) proper fair (IsPermutation-map ends old sorted perm) (sorted_ends sorted up)
      (ap ends_of e ∙ filter_ends (dedup same sorted) ∙ ap (λ xs. filter (λ (m : Ends). not (bits_of_place m.from == bits_of_place m.to)) xs)
      (dedup_ends sorted))

  -- each of the tidied moves is one of the given ones
  pub tidied_given : (old sorted new : List (Place × Place × T)) (m : Place × Place × T) → IsPermutation old sorted →
      new ≡ filter (λ (m : Place × Place × T). not (bits_of_place m.0 == bits_of_place m.1))
      (dedup (λ (x y : Place × Place × T). bits_of_place x.1 == bits_of_place y.1) sorted) → Contains new m → Contains old m
  tidied_given old sorted new m perm e h =
      let same : Place × Place × T → Place × Place × T → Bool = λ x y. bits_of_place x.1 == bits_of_place y.1 in
      let p : Place × Place × T → Bool = λ m. not (bits_of_place m.0 == bits_of_place m.1) in
      Contains-permutation sorted old m (IsPermutation-sym old sorted perm)
      (Contains-from_dedup same sorted m (contains_from_filter p (dedup same sorted) m (subst (λ xs. Contains xs m) e h)).0)

  -- the tidied list is sorted
  pub tidied_sorted : (old : List Ends) (new : List (Place × Place × T)) → IsTidied old (ends_of new) →
      IsNonDecreasingBy (λ (m : Place × Place × T). bits_of_place m.1) new
  tidied_sorted old new is i j d le r =
      let many : length (ends_of new) ≡ length new = length-map new ends in
      let at_i : get_or (ends_of new) i (ends d) ≡ ends (get_or new i d) = get_or-map ends new i d (ends d) (omega arith) in
      let at_j : get_or (ends_of new) j (ends d) ≡ ends (get_or new j d) = get_or-map ends new j d (ends d) r in
      ⊎_elim
      (λ e. subst (λ x. bits_of_place (get_or new i d).1 ≤ bits_of_place (get_or new x d).1) e (omega arith))
      (λ n. let lt : bits_of_place (get_or (ends_of new) i (ends d)).to < bits_of_place (get_or (ends_of new) j (ends d)).to = is.strict i j (ends d)
      (omega arith) (omega arith) in
      let e : bits_of_place (get_or (ends_of new) i (ends d)).to ≡ bits_of_place (get_or new i d).1 = ap (λ (m : Ends). bits_of_place m.to) at_i in
      let f : bits_of_place (get_or (ends_of new) j (ends d)).to ≡ bits_of_place (get_or new j d).1 = ap (λ (m : Ends). bits_of_place m.to) at_j in
      omega arith)
      (cases_eq i j)
