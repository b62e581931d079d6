-- Homes that are kept over a list of more places: what a change of the list or of one of them does to all.
use Rattle.std.proofs.Common.{ℕ, zero, suc, ◌≡◌, ◌<◌, ◌≤◌, arith, Bool, true, false, cond}
use Rattle.std.proofs.Common.{nat_eq, eq-eqb, List, [], ◌∷◌, length, get_or, map, refl, sym, ap, ◌∙◌}
use Rattle.std.specs.Prelude.{◌||◌, slice_set}
use Rattle.std.proofs.lemmas.Bool.{true≢false}
use Rattle.std.proofs.lemmas.List.{get_or-set_same, get_or-map, get_or_past, length-set, length-map}
use Rattle.std.proofs.Math.Bool.{or-true}
use Rattle.regalloc2_checker_sets.specs.Homes.{MorePlaces, HomePlaces, HomeEntry, no_more, no_homes, home_of, is_first, has_more, has_saved_more}
use Rattle.regalloc2_checker_sets.specs.Homes.{has_home, has_saved, IsSaved, IsMoreHome, AreMorePlaces}
use Rattle.regalloc2_checker_sets.specs.Homes.{AreMoreHomes}
use Rattle.regalloc2_checker_sets.proofs.MoreLaws.{none-more, none-saved}
use Rattle.regalloc2_checker_sets.proofs.HomeLaws.{home-split, saved-split}

-- what is more of one of two is more of both together
either-more : (a b c d : Bool) → (a ≡ true → b ≡ true) → (c ≡ true → d ≡ true) → (a || c) ≡ true → (b || d) ≡ true
either-more true b c d f g h = ap (λ x. x || d) (f refl)
either-more false b c d f g h = ap (λ x. b || x) (g h) ∙ or-true b

-- with more places in the list, a home has more
pub entry-kept : (old new : List MorePlaces) (e : HomeEntry) → AreMorePlaces old new → IsMoreHome (home_of old e) (home_of new e)
entry-kept old new e h = record {
  kept = λ i is.
      home-split (home_of new e) i
      ∙ either-more (is_first e.low e.first e.second i) (is_first e.low e.first e.second i) (has_more (get_or old e.index no_more) i)
      (has_more (get_or new e.index no_more) i) (λ y. y) ((h e.index).kept i) (sym (home-split (home_of old e) i) ∙ is);
  saved = λ i is.
      saved-split (home_of new e) i
      ∙ either-more (is_first e.low e.first e.second i) (is_first e.low e.first e.second i) (has_saved_more (get_or old e.index no_more) i)
      (has_saved_more (get_or new e.index no_more) i) (λ y. y) ((h e.index).saved i) (sym (saved-split (home_of old e) i) ∙ is);
}

-- a home whose index is past the last gets another
pub entry-moved : (old new : List MorePlaces) (e : HomeEntry) (k : ℕ) → length old ≤ e.index → IsMoreHome (home_of old e) (home_of new (record e { index = k }))
entry-moved old new e k past =
    let none : get_or old e.index no_more ≡ no_more = get_or_past old e.index no_more past in
    record {
      kept = λ i is.
          home-split (home_of new (record e { index = k })) i
          ∙ either-more (is_first e.low e.first e.second i) (is_first e.low e.first e.second i) (has_more (get_or old e.index no_more) i)
          (has_more (get_or new k no_more) i) (λ y. y)
          (λ y. absurd (true≢false (sym y ∙ ap (λ (p : MorePlaces). has_more p i) none ∙ none-more i))) (sym (home-split (home_of old e) i) ∙ is);
      saved = λ i is.
          saved-split (home_of new (record e { index = k })) i
          ∙ either-more (is_first e.low e.first e.second i) (is_first e.low e.first e.second i) (has_saved_more (get_or old e.index no_more) i)
          (has_saved_more (get_or new k no_more) i) (λ y. y)
          (λ y. absurd (true≢false (sym y ∙ ap (λ (p : MorePlaces). has_saved_more p i) none ∙ none-saved i))) (sym (saved-split (home_of old e) i) ∙ is);
    }

-- places are added to a home over two steps
pub home-then : (a b c : HomePlaces) → IsMoreHome a b → IsMoreHome b c → IsMoreHome a c
home-then a b c h g = record { kept = λ i is. g.kept i (h.kept i is); saved = λ i is. g.saved i (h.saved i is) }

-- a place that is one of more places is one of the home
pub entry-has : (more : List MorePlaces) (e : HomeEntry) (k place : ℕ) → e.index ≡ k → has_more (get_or more k no_more) place ≡ true →
    has_home (home_of more e) place ≡ true
entry-has more e k place at is =
    home-split (home_of more e) place
    ∙ ap (λ b. is_first e.low e.first e.second place || b) (ap (λ n. has_more (get_or more n no_more) place) at ∙ is)
    ∙ or-true (is_first e.low e.first e.second place)

-- a place is added to the mask, or as one of the two
pub entry-first : (more : List MorePlaces) (e f : HomeEntry) (place : ℕ) → f.index ≡ e.index →
    ((i : ℕ) → is_first f.low f.first f.second i ≡ cond (nat_eq i place) true (is_first e.low e.first e.second i)) →
    IsMoreHome (home_of more e) (home_of more f)
entry-first more e f place same h = record {
  kept = λ i is.
      home-split (home_of more f) i
      ∙ ap (λ n. is_first f.low f.first f.second i || has_more (get_or more n no_more) i) same
      ∙ either-more (is_first e.low e.first e.second i) (is_first f.low f.first f.second i) (has_more (get_or more e.index no_more) i)
      (has_more (get_or more e.index no_more) i) (first i) (λ y. y) (sym (home-split (home_of more e) i) ∙ is);
  saved = λ i is.
      saved-split (home_of more f) i
      ∙ ap (λ n. is_first f.low f.first f.second i || has_saved_more (get_or more n no_more) i) same
      ∙ either-more (is_first e.low e.first e.second i) (is_first f.low f.first f.second i) (has_saved_more (get_or more e.index no_more) i)
      (has_saved_more (get_or more e.index no_more) i) (first i) (λ y. y) (sym (saved-split (home_of more e) i) ∙ is);
}
  where
    always : (b : Bool) → cond b true true ≡ true
    always true = refl
    always false = refl

    first : (i : ℕ) → is_first e.low e.first e.second i ≡ true → is_first f.low f.first f.second i ≡ true
    first i is = h i ∙ ap (λ b. cond (nat_eq i place) true b) is ∙ always (nat_eq i place)

-- the place is one of the home
pub entry-first_has : (more : List MorePlaces) (e f : HomeEntry) (place : ℕ) →
    ((i : ℕ) → is_first f.low f.first f.second i ≡ cond (nat_eq i place) true (is_first e.low e.first e.second i)) → has_home (home_of more f) place ≡ true
entry-first_has more e f place h =
    home-split (home_of more f) place
    ∙ ap (λ b. b || has_more (get_or more f.index no_more) place)
    (h place ∙ ap (λ b. cond b true (is_first e.low e.first e.second place)) (eq-eqb place place refl))

module _ (old new : List MorePlaces) (e f : HomeEntry) (P : HomePlaces → ℕ → Bool)
    (each : (x : HomeEntry) (i : ℕ) → P (home_of old x) i ≡ true → P (home_of new x) i ≡ true)
    (here : (i : ℕ) → P (home_of old e) i ≡ true → P (home_of new f) i ≡ true) where
  others-put : (es : List HomeEntry) (j i : ℕ) → P (get_or (map (home_of old) es) j no_homes) i ≡ true →
      P (get_or (map (home_of new) es) j no_homes) i ≡ true
  others-put [] j i has = has
  others-put (x ∷ es) zero i has = each x i has
  others-put (x ∷ es) (suc j) i has = others-put es j i has

  -- what stays true of a place of a home where one home is kept otherwise
  each-put : (es : List HomeEntry) (v j : ℕ) → v < length es → e ≡ get_or es v e → (i : ℕ) → P (get_or (map (home_of old) es) j no_homes) i ≡ true →
      P (get_or (map (home_of new) (slice_set es v f)) j no_homes) i ≡ true
  each-put [] v j less is i has = absurd (omega arith)
  each-put (x ∷ es) zero zero less is i has = here i (ap (λ (y : HomeEntry). P (home_of old y) i) is ∙ has)
  each-put (x ∷ es) zero (suc j) less is i has = others-put es j i has
  each-put (x ∷ es) (suc v) zero less is i has = each x i has
  each-put (x ∷ es) (suc v) (suc j) less is i has = each-put es v j (omega arith) is i has

-- homes of which one is kept otherwise, with more places, are more
pub homes-put : (old new : List MorePlaces) (es : List HomeEntry) (v : ℕ) (e f : HomeEntry) → v < length es → e ≡ get_or es v e →
    AreMorePlaces old new → IsMoreHome (home_of old e) (home_of new f) → AreMoreHomes (map (home_of old) es) (map (home_of new) (slice_set es v f))
homes-put old new es v e f less is all one = record {
  long = length-map (slice_set es v f) (home_of new) ∙ length-set es v f ∙ sym (length-map es (home_of old));
  kept = λ j i has. each-put old new e f has_home (λ x. (entry-kept old new x all).kept) one.kept es v j less is i has;
  saved = λ j i has. each-put old new e f has_saved (λ x. (entry-kept old new x all).saved) one.saved es v j less is i has;
}

-- the home that is kept otherwise is at its vreg
pub homes-put_at : (new : List MorePlaces) (es : List HomeEntry) (v : ℕ) (f : HomeEntry) → v < length es →
    get_or (map (home_of new) (slice_set es v f)) v no_homes ≡ home_of new f
homes-put_at new es v f less =
    get_or-map (home_of new) (slice_set es v f) v f no_homes (omega (arith, length-set es v f)) ∙ ap (home_of new) (get_or-set_same es v f f less)

-- what follows of each home over a list of more places
homes-each : (P Q : HomePlaces → ℕ → Bool) (old new : List MorePlaces) → ((e : HomeEntry) (i : ℕ) → P (home_of old e) i ≡ true → Q (home_of new e) i ≡ true) →
    ((i : ℕ) → P no_homes i ≡ true → Q no_homes i ≡ true) → (es : List HomeEntry) (j i : ℕ) →
    P (get_or (map (home_of old) es) j no_homes) i ≡ true → Q (get_or (map (home_of new) es) j no_homes) i ≡ true
homes-each P Q old new each none [] j i has = none i has
homes-each P Q old new each none (e ∷ es) zero i has = each e i has
homes-each P Q old new each none (e ∷ es) (suc j) i has = homes-each P Q old new each none es j i has

-- homes whose places are all saved
pub homes-saved : (old new : List MorePlaces) (es : List HomeEntry) →
    ((n i : ℕ) → has_more (get_or old n no_more) i ≡ true → has_more (get_or new n no_more) i ≡ true) → ((n : ℕ) → IsSaved (get_or new n no_more)) →
    (j i : ℕ) → has_home (get_or (map (home_of old) es) j no_homes) i ≡ true → has_saved (get_or (map (home_of new) es) j no_homes) i ≡ true
homes-saved old new es kept all =
    homes-each has_home has_saved old new
    (λ e i is. saved-split (home_of new e) i
    ∙ either-more (is_first e.low e.first e.second i) (is_first e.low e.first e.second i) (has_more (get_or old e.index no_more) i)
    (has_saved_more (get_or new e.index no_more) i) (λ y. y) (λ y. all e.index i (kept e.index i y)) (sym (home-split (home_of old e) i) ∙ is))
    (λ i is. saved-split no_homes i
    ∙ either-more (is_first 0 0 0 i) (is_first 0 0 0 i) (has_more no_more i) (has_saved_more no_more i) (λ y. y)
    (λ y. absurd (true≢false (sym y ∙ none-more i))) (sym (home-split no_homes i) ∙ is)) es

-- homes whose saved places stay
pub homes-dropped : (old new : List MorePlaces) (es : List HomeEntry) →
    ((n i : ℕ) → has_saved_more (get_or old n no_more) i ≡ true → has_saved_more (get_or new n no_more) i ≡ true) →
    (j i : ℕ) → has_saved (get_or (map (home_of old) es) j no_homes) i ≡ true → has_saved (get_or (map (home_of new) es) j no_homes) i ≡ true
homes-dropped old new es kept =
    homes-each has_saved has_saved old new
    (λ e i is. saved-split (home_of new e) i
    ∙ either-more (is_first e.low e.first e.second i) (is_first e.low e.first e.second i) (has_saved_more (get_or old e.index no_more) i)
    (has_saved_more (get_or new e.index no_more) i) (λ y. y) (kept e.index i) (sym (saved-split (home_of old e) i) ∙ is)) (λ i is. is) es
