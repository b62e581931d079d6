-- Chunks of an array and of saved copies of it.
use Rattle.std.proofs.Common.{ℕ, ◌≡◌, ◌+◌, ◌*◌, ◌<◌, ◌≤◌, ◌/◌, ◌%◌, arith, List, length, get_or, sym, ap, ◌∙◌, subst}
use Rattle.std.proofs.Common.{Bool, true, false, nat_eq, refl, ◌-◌, ◌≢◌, inl, inr}
use Rattle.std.specs.Prelude.{not, slice_set}
use Rattle.std.specs.List.{between}
use Rattle.std.specs.Cmp.Lexicographic.{pointwise}
use Rattle.std.proofs.lemmas.Bool.{cases_eq, cases_lt}
use Rattle.std.proofs.lemmas.Bool.Decides.{Decides-eqb}
use Rattle.std.proofs.lemmas.Slice.Eq.{slice_eq-Decides}
use Rattle.std.proofs.lemmas.List.{ext_get_or, get_or-set_other, get_or-set_same, length-set}
use Rattle.std.proofs.lemmas.List.Edits.{get_or-between, length-between}
use Rattle.regalloc2_checker_sets.specs.SavedCopies.{Copies, saved_at, number_in_cell, IsChunkAt}
use Rattle.regalloc2_checker_sets.specs.SavedCopies.{AreSameBetween}
use Rattle.regalloc2_checker_sets.specs.SavedNumbers.{AreChunksKept, AreLoaded, ArePartsAlike}

-- if all numbers are zeros, each chunk is at the beginning of the words
pub chunks-new : (words cells : List ℕ) (bases : Copies) → length words ≡ 64 → ((i : ℕ) → get_or words i 0 ≡ 0) → ((i : ℕ) → get_or cells i 0 ≡ 0) →
    length cells % 64 ≡ 0 → length cells ≤ 64 * length bases.cells → ((i : ℕ) → number_in_cell bases i ≡ 0) → ((k i : ℕ) → saved_at bases k i ≡ 0) →
    AreChunksKept words cells bases
chunks-new words cells bases long wz cz whole few bz sz = record {
  whole = whole;
  long = few;
  within = λ k j l. (let e = sz k j in omega arith);
  small = λ k j l. (let e = sz k j in omega arith);
  known = λ j l small.
      subst (λ (b : ℕ). IsChunkAt words cells j b) (sym (bz j)) (record { within = omega arith; same = λ t lt. cz (64 * j + t) ∙ sym (wz (0 + t)) });
  past_now = λ j h l. bz j;
  past_saved = λ k j h l. sz k j;
}

-- chunks that begin where a saved copy's chunks do have its numbers
pub chunks-alike : (words cells : List ℕ) (bases : Copies) (k from end : ℕ) → AreChunksKept words cells bases → end ≤ length bases.cells →
    AreSameBetween bases k from end → ArePartsAlike words cells bases k (64 * from) (64 * end)
chunks-alike words cells bases k from end h l same i lo hi =
    let e = same (i / 64) (omega arith) (omega arith) in
    let small = h.small k (i / 64) (omega arith) in
    let at = h.known (i / 64) (omega arith) (omega arith) in
    let whole : 64 * (i / 64) + i % 64 ≡ i = omega arith in
    ap (λ n. get_or cells n 0) (sym whole) ∙ at.same (i % 64) (omega arith) ∙ ap (λ b. get_or words (b + i % 64) 0) e

-- a chunk whose base differs from that of a saved copy is one of the array's
pub chunk-inside : (words cells : List ℕ) (bases : Copies) (k j : ℕ) → AreChunksKept words cells bases → j < length bases.cells →
    number_in_cell bases j ≢ saved_at bases k j → 64 * j + 64 ≤ length cells
chunk-inside words cells bases k j h l differs = elim (cases_lt (64 * j) (length cells)) [
  | inl b ↦ (let whole = h.whole in omega arith)
  | inr n ↦ absurd (differs (h.past_now j (omega arith) l ∙ sym (h.past_saved k j (omega arith) l)))
]

-- parts of two lists that are equal have the same numbers
pub parts-same : (xs ys : List ℕ) (a b n t : ℕ) → between a (a + n) xs ≡ between b (b + n) ys → t < n → get_or xs (a + t) 0 ≡ get_or ys (b + t) 0
parts-same xs ys a b n t e l =
    sym (get_or-between xs a (a + n) t 0 (omega (arith, l))) ∙ ap (λ (zs : List ℕ). get_or zs t 0) e ∙ get_or-between ys b (b + n) t 0 (omega (arith, l))

-- parts of two lists with the same numbers are equal
pub parts-alike : (xs ys : List ℕ) (a b n : ℕ) → a + n ≤ length xs → b + n ≤ length ys → ((t : ℕ) → t < n → get_or xs (a + t) 0 ≡ get_or ys (b + t) 0) →
    between a (a + n) xs ≡ between b (b + n) ys
parts-alike xs ys a b n la lb same =
    let long : length (between a (a + n) xs) ≡ a + n - a = length-between xs a (a + n) la in
    let other : length (between b (b + n) ys) ≡ b + n - b = length-between ys b (b + n) lb in
    ext_get_or 0 (between a (a + n) xs) (between b (b + n) ys) (omega (arith, long, other))
    (λ t l. get_or-between xs a (a + n) t 0 (omega (arith, l, long)) ∙ same t (omega (arith, l, long))
    ∙ sym (get_or-between ys b (b + n) t 0 (omega (arith, l, long))))

-- parts of two lists that are equal have the same numbers from some number on
pub parts-later : (xs ys : List ℕ) (a b n m t : ℕ) → between (a + m) (a + m + n) xs ≡ between (b + m) (b + m + n) ys → m ≤ t → t < m + n →
    get_or xs (a + t) 0 ≡ get_or ys (b + t) 0
parts-later xs ys a b n m t e low l =
    let i : a + m + (t - m) ≡ a + t = omega (arith, low) in
    let j : b + m + (t - m) ≡ b + t = omega (arith, low) in
    ap (λ k. get_or xs k 0) (sym i) ∙ parts-same xs ys (a + m) (b + m) n (t - m) e (omega (arith, low, l)) ∙ ap (λ k. get_or ys k 0) j

-- lists that are not found to differ are equal
pub same-where-not : (xs ys : List ℕ) (r : Bool) → r ≡ not (pointwise nat_eq xs ys) → r ≡ false → xs ≡ ys
same-where-not xs ys r e d = (slice_eq-Decides Decides-eqb xs ys (pointwise nat_eq xs ys) refl).0 (yes (pointwise nat_eq xs ys) (sym e ∙ d))
  where
    yes : (b : Bool) → not b ≡ false → b ≡ true
    yes true h = refl
    yes false h = absurd cc

-- the array has the chunks of a saved copy, and the working bases are that copy's
pub chunks-loaded : (words cells new : List ℕ) (bases now : Copies) (k : ℕ) → AreChunksKept words cells bases → length new ≡ length cells →
    AreLoaded words new bases k (length bases.cells) → now.words ≡ bases.words → now.saved ≡ bases.saved → length now.cells ≡ length bases.cells →
    ((j : ℕ) → j < length now.cells → number_in_cell now j ≡ saved_at bases k j) → AreChunksKept words new now
chunks-loaded words cells new bases now k h long loaded w s n at = record {
  whole = rw long h.whole;
  long = omega (arith, long, n, h.long);
  within = λ i j l. rw (w, s) (h.within i j (omega (arith, l, n)));
  small = λ i j l. rw (w, s) (h.small i j (omega (arith, l, n)));
  known = λ j l small. subst (IsChunkAt words new j) (sym (at j l)) (loaded j (omega (arith, l, n)) (omega (arith, l, n)));
  past_now = λ j high l. at j l ∙ h.past_saved k j (omega (arith, high, long)) (omega (arith, l, n));
  past_saved = λ i j high l. rw (w, s) (h.past_saved i j (omega (arith, high, long)) (omega (arith, l, n)));
}

-- each number of the array is that of the copy
pub number-loaded : (words new : List ℕ) (bases : Copies) (k i : ℕ) → AreLoaded words new bases k (length bases.cells) → i / 64 < length bases.cells →
    get_or new i 0 ≡ get_or words (saved_at bases k (i / 64) + i % 64) 0
number-loaded words new bases k i loaded less =
    subst (λ n. get_or new n 0 ≡ get_or words (saved_at bases k (i / 64) + i % 64) 0) (omega arith) ((loaded (i / 64) less less).same (i % 64) (omega arith))

-- a number is written, and its chunk isn't stored any more
pub chunks-written : (words cells : List ℕ) (bases new : Copies) (p x : ℕ) → p < length cells →
    new ≡ record bases { cells = slice_set bases.cells (p / 64) 4294967295 } → AreChunksKept words cells bases → AreChunksKept words (slice_set cells p x) new
chunks-written words cells bases new p x less e h =
    let inside : p / 64 < length bases.cells = omega (arith, less, h.long) in
    let count = length-set cells p x in
    let long = length-set bases.cells (p / 64) 4294967295 in
    subst (AreChunksKept words (slice_set cells p x)) (sym e) (record {
      whole = rw count h.whole;
      long = omega (arith, h.long, count, long);
      within = λ k j l. h.within k j (omega (arith, l, long));
      small = λ k j l. h.small k j (omega (arith, l, long));
      known = λ j l small. elim (cases_eq j (p / 64)) [
        | inl q ↦ (let at = ap (λ n. get_or (slice_set bases.cells (p / 64) 4294967295) n 0) q ∙ get_or-set_same bases.cells (p / 64) 4294967295 0 inside in
            absurd (omega (arith, at, small)))
        | inr n ↦
            let other = get_or-set_other bases.cells (p / 64) j 4294967295 0 n in
            let chunk = h.known j (omega (arith, l, long)) (subst (λ m. m < 4294967295) other small) in
            subst (IsChunkAt words (slice_set cells p x) j) (sym other) (record {
              within = chunk.within;
              same = λ t lt. get_or-set_other cells p (64 * j + t) x 0 (λ q. n (omega (arith, q, lt))) ∙ chunk.same t lt;
            })
      ];
      past_now = λ j high l. get_or-set_other bases.cells (p / 64) j 4294967295 0 (λ q. omega (arith, q, high, count, less))
          ∙ h.past_now j (omega (arith, high, count)) (omega (arith, l, long));
      past_saved = λ k j high l. h.past_saved k j (omega (arith, high, count)) (omega (arith, l, long));
    })
