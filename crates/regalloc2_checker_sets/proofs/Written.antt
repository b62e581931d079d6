-- Numbers that are written into an array, one after another, and arrays that are stored anew.
use Rattle.std.proofs.Common.{ℕ, ◌≡◌, ◌+◌, ◌*◌, ◌-◌, ◌/◌, ◌%◌, ◌<◌, ◌≤◌, ◌⊎◌, inl, inr, arith, Bool, true, false}
use Rattle.std.proofs.Common.{List, [], length, get_or, set, refl, sym, ap, ◌∙◌, subst}
use Rattle.std.specs.List.{slice_range}
use Rattle.std.proofs.lemmas.Bool.{cases_eq}
use Rattle.std.proofs.lemmas.List.Edits.{length-between, get_or-between}
use Rattle.std.proofs.lemmas.List.{length-set, get_or-set_same, get_or-set_other, get_or_past}
use Rattle.regalloc2_checker_sets.specs.SavedCopies.{number_in}
use Rattle.regalloc2_checker_sets.specs.SavedNumbers.{NumberCopies, copy_count, number_now, saved_number}
use Rattle.regalloc2_checker_sets.specs.SavedNumbers.{AreWrittenTo, AreNumbersSame, IsSomeArray, IsWithout}

-- before the first
pub written-none : (numbers : List ℕ) (first : ℕ) (old : NumberCopies) → AreWrittenTo numbers first 0 old old
written-none numbers first old = record {
  count = refl;
  saved = λ k i. refl;
  long = refl;
  written = λ t less. absurd (omega arith);
  before = λ i less. refl;
  after = λ i less. refl;
}

-- one more
pub written-next : (numbers : List ℕ) (first t x : ℕ) (old mid new : NumberCopies) → first + t < length mid.cells → x ≡ get_or numbers t 0 →
    new ≡ record mid { cells = set mid.cells (first + t) x } → AreWrittenTo numbers first t old mid → AreWrittenTo numbers first (t + 1) old new
written-next numbers first t x old mid new less e at w = subst (AreWrittenTo numbers first (t + 1) old) (sym at) (record {
  count = w.count;
  saved = w.saved;
  long = length-set mid.cells (first + t) x ∙ w.long;
  written = λ s low. elim (cases_eq s t) [
    | inl q ↦ subst (λ (n : ℕ). get_or (set mid.cells (first + t) x) (first + n) 0 ≡ get_or numbers n 0) (sym q)
        (get_or-set_same mid.cells (first + t) x 0 less ∙ e)
    | inr n ↦ get_or-set_other mid.cells (first + t) (first + s) x 0 (λ q. n (omega (arith, q))) ∙ w.written s (omega (arith, low, n))
  ];
  before = λ i low. get_or-set_other mid.cells (first + t) i x 0 (λ q. omega (arith, q, low)) ∙ w.before i low;
  after = λ i high. get_or-set_other mid.cells (first + t) i x 0 (λ q. omega (arith, q, high)) ∙ w.after i (omega (arith, high));
})

-- after a copy is loaded
pub array-loaded : (old mid new : NumberCopies) (k : ℕ) → length mid.cells ≡ length old.cells → length new.cells ≡ length mid.cells →
    ((j i : ℕ) → saved_number mid j i ≡ saved_number old j i) →
    ((i : ℕ) → i < length new.cells → number_now new i ≡ saved_number mid k i) → IsSomeArray old new
array-loaded old mid new k e d s h = inr (k, λ i less. h i (omega (arith, less, e, d)) ∙ s k i)

-- a chunk that was written from words is that of a saved copy
pub chunk-written : (numbers words : List ℕ) (saved new : ℕ → ℕ) (chunk base i : ℕ) → 64 * chunk ≤ i → i < 64 * (chunk + 1) →
    ((t : ℕ) → t < length numbers → new (64 * chunk + t) ≡ get_or numbers t 0) →
    ((t : ℕ) → t < 64 → get_or words (base + t) 0 ≡ saved (64 * chunk + t)) →
    (numbers ≡ slice_range words base (base + 64)) × (base + 64 ≤ length words) → new i ≡ saved i
chunk-written numbers words saved new chunk base i high low w s (e, within) =
    let t : ℕ = i - 64 * chunk in
    let at : 64 * chunk + t ≡ i = omega (arith, high) in
    let long : length numbers ≡ 64 = ap (λ (xs : List ℕ). length xs) e ∙ length-part in
    let small : t < 64 = omega (arith, low, high) in
    subst (λ (n : ℕ). new n ≡ saved n) at (w t (omega (arith, long, small)) ∙ ap (λ (xs : List ℕ). get_or xs t 0) e ∙ part t small ∙ s t small)
  where
    length-part : length (slice_range words base (base + 64)) ≡ 64
    length-part = (let l = length-between words base (base + 64) within in omega (arith, l))

    part : (t : ℕ) → t < 64 → get_or (slice_range words base (base + 64)) t 0 ≡ get_or words (base + t) 0
    part t l = get_or-between words base (base + 64) t 0 (omega (arith, l))

-- where a chunk ends the array is whole
pub chunks-whole : (n : ℕ) → 0 < n → n % 64 ≡ 0 → 64 * ((n - 1) / 64 + 1) ≡ n
chunks-whole n some whole = omega arith

-- the first n copies are stored anew but the marked ones, and both arrays have the same
pub record AreStoredAnew (marks : List Bool) (n : ℕ) (old now to : NumberCopies) : Type 0 where
  pub count : copy_count now ≡ copy_count old
  pub saved : (k i : ℕ) → saved_number now k i ≡ saved_number old k i
  pub long : length now.cells ≡ length old.cells
  pub array : IsSomeArray old now
  pub as_many : copy_count to ≡ copy_count old
  pub same : AreNumbersSame now to
  pub kept : (k i : ℕ) → k < n → get_or marks k false ≡ false → i < length old.cells → saved_number to k i ≡ saved_number old k i
  pub each : (k i : ℕ) → i < length old.cells → (saved_number to k i ≡ 0) ⊎ (saved_number to k i ≡ saved_number old k i)

-- no copy yet
pub anew-none : (marks : List Bool) (old new to : NumberCopies) → copy_count new ≡ copy_count old → length new.cells ≡ length old.cells →
    ((k i : ℕ) → saved_number new k i ≡ 0) → AreWrittenTo old.cells 0 (length old.cells) new to → AreStoredAnew marks 0 old old to
anew-none marks old new to c l z w = record {
  count = refl;
  saved = λ k i. refl;
  long = refl;
  array = inl (λ i less. refl);
  as_many = w.count ∙ c;
  same = record { long = w.long ∙ l; same = λ i less. subst (λ (n : ℕ). number_now to n ≡ number_now old i) (from-zero i) (w.written i less) };
  kept = λ k i less. absurd (omega arith);
  each = λ k i less. inl (w.saved k i ∙ z k i);
}
  where
    from-zero : (i : ℕ) → 0 + i ≡ i
    from-zero i = omega arith

-- a copy that has a mark is passed over
pub anew-skip : (marks : List Bool) (n : ℕ) (old now to : NumberCopies) → get_or marks n false ≡ true → AreStoredAnew marks n old now to →
    AreStoredAnew marks (n + 1) old now to
anew-skip marks n old now to is h = record {
  count = h.count;
  saved = h.saved;
  long = h.long;
  array = h.array;
  as_many = h.as_many;
  same = h.same;
  kept = λ k i less not. elim (cases_eq k n) [
    | inl e ↦ absurd (true-false (sym is ∙ ap (λ (m : ℕ). get_or marks m false) (sym e) ∙ not))
    | inr d ↦ h.kept k i (omega (arith, less, d)) not
  ];
  each = h.each;
}
  where
    true-false : true ≡ false → ⊥
    true-false e = absurd cc

-- a copy that was never saved has zeros, if the copies that were never saved had zeros at first
pub unsaved-zero : (n : ℕ) (old now : NumberCopies) → copy_count now ≡ copy_count old → ((k i : ℕ) → saved_number now k i ≡ saved_number old k i) →
    ((k i : ℕ) → get_or old.base_rows k [] ≡ [] → saved_number old k i ≡ 0) → get_or now.base_rows n [] ≡ [] → (i : ℕ) → saved_number now n i ≡ 0
unsaved-zero n old now c s zeros empty i =
    ap (λ (row : List ℕ). get_or now.words (number_in now.base_words row (i / 64) + i % 64) 0) (empty ∙ sym (past now c))
    ∙ s (copy_count old) i ∙ zeros (copy_count old) i (past old refl)
  where
    past : (v : NumberCopies) → copy_count v ≡ copy_count old → get_or v.base_rows (copy_count old) [] ≡ []
    past v e = get_or_past v.base_rows (copy_count old) [] (omega (arith, e))

-- a copy that has zeros alone needs no storing anew
pub anew-zero : (marks : List Bool) (n : ℕ) (old now to : NumberCopies) → ((i : ℕ) → saved_number now n i ≡ 0) → AreStoredAnew marks n old now to →
    AreStoredAnew marks (n + 1) old now to
anew-zero marks n old now to zeros h = record {
  count = h.count;
  saved = h.saved;
  long = h.long;
  array = h.array;
  as_many = h.as_many;
  same = h.same;
  kept = λ k i less not in_it. elim (cases_eq k n) [
    | inl e ↦ subst (λ (j : ℕ). saved_number to j i ≡ saved_number old j i) (sym e) (here i in_it)
    | inr d ↦ h.kept k i (omega (arith, less, d)) not in_it
  ];
  each = h.each;
}
  where
    was : (i : ℕ) → saved_number old n i ≡ 0
    was i = sym (h.saved n i) ∙ zeros i

    here : (i : ℕ) → i < length old.cells → saved_number to n i ≡ saved_number old n i
    here i in_it = elim (h.each n i in_it) [
      | inl z ↦ z ∙ sym (was i)
      | inr d ↦ d
    ]

-- one more
pub anew-next : (marks : List Bool) (n : ℕ) (old now to next more : NumberCopies) → AreStoredAnew marks n old now to → copy_count next ≡ copy_count now →
    ((k i : ℕ) → saved_number next k i ≡ saved_number now k i) → length next.cells ≡ length now.cells →
    ((i : ℕ) → i < length next.cells → number_now next i ≡ saved_number now n i) → copy_count more ≡ copy_count to → AreNumbersSame next more →
    ((k i : ℕ) → (k ≡ n → ⊥) → i < length to.cells → saved_number more k i ≡ saved_number to k i) →
    ((i : ℕ) → i < length to.cells → saved_number more n i ≡ saved_number now n i) → AreStoredAnew marks (n + 1) old next more
anew-next marks n old now to next more h c s l at m same others here = record {
  count = c ∙ h.count;
  saved = λ k i. s k i ∙ h.saved k i;
  long = l ∙ h.long;
  array = array-loaded old now next n h.long l h.saved at;
  as_many = m ∙ h.as_many;
  same = same;
  kept = λ k i less not in_it. elim (cases_eq k n) [
    | inl e ↦ subst (λ (j : ℕ). saved_number more j i ≡ saved_number old j i) (sym e) (here i (inside i in_it) ∙ h.saved n i)
    | inr d ↦ others k i d (inside i in_it) ∙ h.kept k i (omega (arith, less, d)) not in_it
  ];
  each = λ k i in_it. elim (cases_eq k n) [
    | inl e ↦ inr (subst (λ (j : ℕ). saved_number more j i ≡ saved_number old j i) (sym e) (here i (inside i in_it) ∙ h.saved n i))
    | inr d ↦ subst (λ (x : ℕ). (x ≡ 0) ⊎ (x ≡ saved_number old k i)) (sym (others k i d (inside i in_it))) (h.each k i in_it)
  ];
}
  where
    inside : (i : ℕ) → i < length old.cells → i < length to.cells
    inside i less = omega (arith, less, h.long, h.same.long)

-- all of them
pub anew-all : (marks : List Bool) (n : ℕ) (old now to : NumberCopies) → copy_count old ≤ n → AreStoredAnew marks n old now to → IsWithout marks old to
anew-all marks n old now to all h = record {
  count = h.as_many;
  long = h.same.long ∙ h.long;
  array = array-same h.array;
  kept = λ k i less. h.kept k i (omega (arith, less, all));
  each = h.each;
}
  where
    at : (i : ℕ) → i < length old.cells → number_now to i ≡ number_now now i
    at i less = h.same.same i (omega (arith, less, h.long))

    array-same : IsSomeArray old now → IsSomeArray old to
    array-same (inl f) = inl (λ i less. at i less ∙ f i less)
    array-same (inr (k, f)) = inr (k, λ i less. at i less ∙ f i less)
