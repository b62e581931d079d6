-- Lists of more places: what a change of one of them does to the list, and how far a walk over the grown ones is.
use Rattle.std.proofs.Common.{inl, inr, ℕ, zero, suc, ◌≡◌, ◌+◌, ◌<◌, ◌≤◌, arith, Bool, true, false, List, [], ◌∷◌, ◌++◌, length, get_or, sym, ap, ◌∙◌, subst}
use Rattle.std.specs.Prelude.{◌⊎◌, slice_set, Contains}
use Rattle.std.proofs.lemmas.Bool.{cases_eq, true≢false}
use Rattle.std.proofs.lemmas.List.{get_or_default, get_or-set_other, get_or-set_same, get_or_append_left, get_or_push, length-append, length-set}
use Rattle.std.proofs.lemmas.List.Elements.{Contains-append_left, Contains-append_right}
use Rattle.regalloc2_checker_sets.specs.Homes.{MorePlaces, no_more, has_more, IsMore, IsSaved, AreMorePlaces, AreGrown}
use Rattle.regalloc2_checker_sets.proofs.MoreLaws.{none-more, none-saved, empty-more, same-more, more-then}

-- nothing is added
pub places-same : (more : List MorePlaces) → AreMorePlaces more more
places-same more n = same-more (get_or more n no_more)

-- what is added over two steps is added over both
pub places-then : (a b c : List MorePlaces) → AreMorePlaces a b → AreMorePlaces b c → AreMorePlaces a c
places-then a b c h g n = more-then (get_or a n no_more) (get_or b n no_more) (get_or c n no_more) (h n) (g n)

-- more places are put at the end
pub places-push : (more : List MorePlaces) (m : MorePlaces) → AreMorePlaces more (more ++ m ∷ [])
places-push [] m n = empty-more no_more (get_or (m ∷ []) n no_more) none-more none-saved
places-push (x ∷ more) m zero = same-more x
places-push (x ∷ more) m (suc n) = places-push more m n

-- places are added at an index
pub places-set : (more : List MorePlaces) (k : ℕ) (m : MorePlaces) → k < length more → IsMore (get_or more k no_more) m → AreMorePlaces more (slice_set more k m)
places-set more k m less h n = elim (cases_eq n k) [
  | inl e ↦
      subst (λ (j : ℕ). IsMore (get_or more j no_more) (get_or (slice_set more k m) j no_more)) (sym e)
      (subst (IsMore (get_or more k no_more)) (sym (get_or-set_same more k m no_more less)) h)
  | inr d ↦ subst (IsMore (get_or more n no_more)) (sym (get_or-set_other more k n m no_more d)) (same-more (get_or more n no_more))
]

-- where there are no places, each was saved
pub empty-saved : (m : MorePlaces) → ((i : ℕ) → has_more m i ≡ false) → IsSaved m
empty-saved m h i is = absurd (true≢false (sym is ∙ h i))

-- a list of more places without places
pub grown-none : (more : List MorePlaces) (grown : List ℕ) → more ≡ [] → grown ≡ [] → AreGrown more grown
grown-none more grown e f = subst (λ (ms : List MorePlaces). AreGrown ms grown) (sym e) (record {
  within = λ k less. absurd (omega (arith, less, ap (λ (ns : List ℕ). length ns) f));
  others = λ n. inr (empty-saved no_more none-more);
})

-- no places are put at the end
pub grown-push : (more : List MorePlaces) (grown : List ℕ) (m : MorePlaces) → ((i : ℕ) → has_more m i ≡ false) → AreGrown more grown →
    AreGrown (more ++ m ∷ []) grown
grown-push more grown m none h = record {
  within = λ k less. omega (arith, h.within k less, length-append more (m ∷ []));
  others = λ n. elim (h.others n) [
    | inl c ↦ inl c
    | inr s ↦ inr (by more n s)
  ];
}
  where
    by : (ms : List MorePlaces) (n : ℕ) → IsSaved (get_or ms n no_more) → IsSaved (get_or (ms ++ m ∷ []) n no_more)
    by [] zero s = empty-saved m none
    by [] (suc n) s = s
    by (x ∷ ms) zero s = s
    by (x ∷ ms) (suc n) s = by ms n s

-- an index is listed, too
pub grown-listed : (more : List MorePlaces) (grown new : List ℕ) (index : ℕ) → new ≡ grown ++ index ∷ [] → index < length more → AreGrown more grown →
    AreGrown more new
grown-listed more grown new index e less h = subst (AreGrown more) (sym e) (record {
  within = λ k l. elim (cases_eq k (length grown)) [
    | inl q ↦ omega (arith, less, get_or_push grown index 0 k (sym q))
    | inr d ↦ omega (
      arith,
      get_or_append_left grown (index ∷ []) 0 k (omega (arith, l, d, length-append grown (index ∷ []))),
      h.within k (omega (arith, l, d, length-append grown (index ∷ []))),
    )
  ];
  others = λ n. elim (h.others n) [
    | inl c ↦ inl (Contains-append_left grown (index ∷ []) n c)
    | inr s ↦ inr s
  ];
})

-- where places change at an index that is listed
pub grown-set : (more : List MorePlaces) (grown new : List ℕ) (index : ℕ) (m : MorePlaces) → new ≡ grown ++ index ∷ [] → index < length more →
    AreGrown more grown → AreGrown (slice_set more index m) new
grown-set more grown new index m e less h =
    let listed = grown-listed more grown new index e less h in
    record {
      within = λ k l. omega (arith, listed.within k l, length-set more index m);
      others = λ n. elim (cases_eq n index) [
        | inl q ↦ inl (subst (λ (ns : List ℕ). Contains ns n) (sym e) (Contains-append_right grown (index ∷ []) n (0, omega arith, sym q)))
        | inr d ↦ elim (listed.others n) [
          | inl c ↦ inl c
          | inr s ↦ inr (subst IsSaved (sym (get_or-set_other more index n m no_more d)) s)
        ]
      ];
    }

-- of the listed indexes from the one at `k` on the places may not be saved
pub record AreLeft (more : List MorePlaces) (grown : List ℕ) (k : ℕ) : Type 0 where
  pub within : (m : ℕ) → m < length grown → get_or grown m 0 < length more
  pub others : (n : ℕ) → ((m : ℕ) × (k ≤ m) × (m < length grown) × (get_or grown m 0 ≡ n)) ⊎ IsSaved (get_or more n no_more)

pub left-all : (more : List MorePlaces) (grown : List ℕ) → AreGrown more grown → AreLeft more grown 0
left-all more grown h = record {
  within = h.within;
  others = λ n. elim (h.others n) [
    | inl c ↦ inl (listed n c)
    | inr s ↦ inr s
  ];
}
  where
    listed : (n : ℕ) → Contains grown n → (m : ℕ) × (0 ≤ m) × (m < length grown) × (get_or grown m 0 ≡ n)
    listed n (m, less, at) = (m, omega arith, less, get_or_default grown m 0 n less ∙ at)

-- one index on, whose places are saved
pub left-next : (more : List MorePlaces) (grown : List ℕ) (k index : ℕ) (p : MorePlaces) → index ≡ get_or grown k 0 → index < length more → IsSaved p →
    AreLeft more grown k → AreLeft (slice_set more index p) grown (k + 1)
left-next more grown k index p at less s h = record {
  within = λ m l. omega (arith, h.within m l, length-set more index p);
  others = λ n. elim (cases_eq n index) [
    | inl e ↦ inr (subst IsSaved (sym (ap (λ (j : ℕ). get_or (slice_set more index p) j no_more) e ∙ get_or-set_same more index p no_more less)) s)
    | inr d ↦ elim (h.others n) [
      | inl c ↦ inl (later n d c)
      | inr t ↦ inr (subst IsSaved (sym (get_or-set_other more index n p no_more d)) t)
    ]
  ];
}
  where
    later : (n : ℕ) → (n ≡ index → ⊥) → (m : ℕ) × (k ≤ m) × (m < length grown) × (get_or grown m 0 ≡ n) →
        (m : ℕ) × (k + 1 ≤ m) × (m < length grown) × (get_or grown m 0 ≡ n)
    later n d (m, low, l, is) = (m, omega (arith, low, past), l, is)
      where
        past : m ≡ k → ⊥
        past q = d (sym is ∙ ap (λ (j : ℕ). get_or grown j 0) q ∙ sym at)

-- at the end all places are saved
pub left-none : (more : List MorePlaces) (grown : List ℕ) (k : ℕ) → length grown ≤ k → AreLeft more grown k → (n : ℕ) → IsSaved (get_or more n no_more)
left-none more grown k past h n = elim (h.others n) [
  | inl c ↦ absurd (no c)
  | inr s ↦ s
]
  where
    no : (m : ℕ) × (k ≤ m) × (m < length grown) × (get_or grown m 0 ≡ n) → ⊥
    no (m, low, l, is) = omega (arith, low, l, past)

-- where all are saved, none need be listed
pub grown-saved : (more : List MorePlaces) (grown : List ℕ) → grown ≡ [] → ((n : ℕ) → IsSaved (get_or more n no_more)) → AreGrown more grown
grown-saved more grown e h = record {
  within = λ k less. absurd (omega (arith, less, ap (λ (ns : List ℕ). length ns) e));
  others = λ n. inr (h n);
}

-- what holds of each place before and after a change at an index
pub each-set : (P : MorePlaces → ℕ → Bool) (fn more : List MorePlaces) (index : ℕ) (p : MorePlaces) → index < length more →
    ((i : ℕ) → P (get_or more index no_more) i ≡ true → P p i ≡ true) →
    ((n i : ℕ) → P (get_or fn n no_more) i ≡ true → P (get_or more n no_more) i ≡ true) →
    (n i : ℕ) → P (get_or fn n no_more) i ≡ true → P (get_or (slice_set more index p) n no_more) i ≡ true
each-set P fn more index p less one h n i is = elim (cases_eq n index) [
  | inl e ↦
      ap (λ (m : MorePlaces). P m i) (ap (λ (j : ℕ). get_or (slice_set more index p) j no_more) e ∙ get_or-set_same more index p no_more less)
      ∙ one i (ap (λ (j : ℕ). P (get_or more j no_more) i) (sym e) ∙ h n i is)
  | inr d ↦ ap (λ (m : MorePlaces). P m i) (get_or-set_other more index n p no_more d) ∙ h n i is
]
