-- Chunks of an array that are put among the words, one after another.
use Rattle.std.proofs.Common.{ℕ, ◌≡◌, ◌+◌, ◌*◌, ◌≢◌, ◌<◌, ◌≤◌, zero, suc, inl, inr, arith, List, [], ◌∷◌, ◌++◌, length, get_or, map, refl, sym, ap, ◌∙◌, subst}
use Rattle.std.specs.Prelude.{Option, None, Some, slice_set}
use Rattle.std.proofs.lemmas.Bool.{cases_eq, cases_lt}
use Rattle.std.specs.List.{slice_range}
use Rattle.std.specs.declared.vec.Vec.{Vec}
use Rattle.std.proofs.lemmas.List.{get_or-set_other, get_or-set_same, get_or_append_left, get_or-append-add, get_or_push, length-set, length-append, length_push}
use Rattle.std.proofs.lemmas.List.{map_push}
use Rattle.std.proofs.lemmas.List.Edits.{length-between, get_or-between}
use Rattle.regalloc2_checker_sets.specs.SavedCopies.{Copies, number_in_cell, IsChunkAt, AreClean, AreMoreWords, AreBases, AreSameBetween}
use Rattle.regalloc2_checker_sets.specs.SavedNumbers.{AreChunksKept, AreCopiesKept, AreSaved}
use Rattle.regalloc2_checker_sets.proofs.Rows.{some-same}

-- no words yet
pub more-same : (words : List ℕ) → AreMoreWords words words
more-same words = record { longer = omega arith; kept = λ i l. refl }

-- equal words are more words
pub more-as : (words new : List ℕ) → new ≡ words → AreMoreWords words new
more-as words new e = subst (AreMoreWords words) (sym e) (more-same words)

-- words are put at the end twice
pub more-then : (a b c : List ℕ) → AreMoreWords a b → AreMoreWords b c → AreMoreWords a c
more-then a b c h k = record {
  longer = omega (arith, h.longer, k.longer);
  kept = λ i l. k.kept i (omega (arith, l, h.longer)) ∙ h.kept i l;
}

-- a chunk stays where it is among more words
pub chunk-more : (words more cells : List ℕ) (chunk base : ℕ) → AreMoreWords words more → IsChunkAt words cells chunk base → IsChunkAt more cells chunk base
chunk-more words more cells chunk base m h = record {
  within = omega (arith, m.longer, h.within);
  same = λ t l. h.same t l ∙ sym (m.kept (base + t) (omega (arith, l, h.within)));
}

-- known chunks stay where they are among more words
pub clean-more : (words more cells : List ℕ) (clean new : List (Option ℕ)) → AreMoreWords words more → new ≡ clean → AreClean words cells clean →
    AreClean more cells new
clean-more words more cells clean new m e h =
    subst (AreClean more cells) (sym e) (λ j b l k. chunk-more words more cells j b m (h j b l k))

-- one more is known
pub clean-next : (words more cells : List ℕ) (clean new : List (Option ℕ)) (chunk b : ℕ) → AreMoreWords words more → chunk < length clean →
    new ≡ slice_set clean chunk (Some b) → IsChunkAt more cells chunk b → AreClean words cells clean → AreClean more cells new
clean-next words more cells clean new chunk b m less e at h = subst (AreClean more cells) (sym e) (λ j a l k. elim (cases_eq j chunk) [
  | inl q ↦
      let set : get_or (slice_set clean chunk (Some b)) j None ≡ Some b = ap (λ n. get_or (slice_set clean chunk (Some b)) n None) q
      ∙ get_or-set_same clean chunk (Some b) None less in
      subst (λ (x : ℕ). IsChunkAt more cells j x) (some-same b a (sym set ∙ k)) (subst (λ (n : ℕ). IsChunkAt more cells n b) (sym q) at)
  | inr n ↦ chunk-more words more cells j a m
      (h j a (omega (arith, l, length-set clean chunk (Some b))) (sym (get_or-set_other clean chunk j (Some b) None n) ∙ k))
])

-- no bases yet
pub bases-none : (words cells bases : List ℕ) → bases ≡ [] → AreBases words cells bases 0
bases-none words cells bases e = record { count_is = ap (λ (l : List ℕ). length l) e; chunks = λ j l. absurd (omega (arith, l)) }

-- one more base
pub bases-next : (words more cells bases new : List ℕ) (chunk b : ℕ) → AreMoreWords words more → new ≡ bases ++ b ∷ [] → IsChunkAt more cells chunk b →
    AreBases words cells bases chunk → AreBases more cells new (chunk + 1)
bases-next words more cells bases new chunk b m e at h = record {
  count_is = ap (λ (l : List ℕ). length l) e ∙ length_push bases b ∙ ap (λ n. n + 1) h.count_is;
  chunks = λ j l. elim (cases_eq j chunk) [
    | inl q ↦ subst (λ (n : ℕ). IsChunkAt more cells n (get_or new n 0)) (sym q)
        (subst (λ (x : ℕ). IsChunkAt more cells chunk x) (sym (ap (λ (l : List ℕ). get_or l chunk 0) e ∙ get_or_push bases b 0 chunk h.count_is)) at)
    | inr n ↦ subst (λ (x : ℕ). IsChunkAt more cells j x)
        (sym (ap (λ (l : List ℕ). get_or l j 0) e ∙ get_or_append_left bases (b ∷ []) 0 j (omega (arith, l, n, h.count_is))))
        (chunk-more words more cells j (get_or bases j 0) m (h.chunks j (omega (arith, l, n))))
  ];
}

-- a part of a list is put at the end
pub more-put : (words mid new part : List ℕ) → mid ≡ words → new ≡ mid ++ part → AreMoreWords words new
more-put words mid new part m e = subst (λ (w : List ℕ). AreMoreWords w new) m (record {
  longer = (let n = ap (λ (l : List ℕ). length l) e in omega (arith, n, length-append mid part));
  kept = λ i l. ap (λ (w : List ℕ). get_or w i 0) e ∙ get_or_append_left mid part 0 i l;
})

-- a chunk of the array is put at the end
pub chunk-put : (words mid new cells : List ℕ) (chunk end : ℕ) → mid ≡ words → end ≡ length words → 64 * chunk + 64 ≤ length cells →
    new ≡ mid ++ slice_range cells (64 * chunk) (64 * chunk + 64) → IsChunkAt new cells chunk end
chunk-put words mid new cells chunk end m d less e =
    let part : List ℕ = slice_range cells (64 * chunk) (64 * chunk + 64) in
    let at : end ≡ length mid = d ∙ ap (λ (w : List ℕ). length w) (sym m) in
    let long : length new ≡ length mid + length part = ap (λ (w : List ℕ). length w) e ∙ length-append mid part in
    let size = length-between cells (64 * chunk) (64 * chunk + 64) less in
    record {
      within = omega (arith, at, long, size);
      same = λ t l. sym (ap (λ (w : List ℕ). get_or w (end + t) 0) e ∙ ap (λ n. get_or (mid ++ part) (n + t) 0) at ∙ get_or-append-add mid part t 0
          ∙ get_or-between cells (64 * chunk) (64 * chunk + 64) t 0 (omega (arith, l)));
    }

-- rows that are all empty: none yet
pub rows-none : {A : Type 0} (vs : List (Vec ℕ A)) → vs ≡ [] → (k : ℕ) → get_or (map (λ b. b.items) vs) k [] ≡ []
rows-none vs e k = ap (λ (l : List (Vec ℕ _)). get_or (map (λ b. b.items) l) k []) e

-- rows that are all empty: one more
pub rows-next : {A : Type 0} (vs ws : List (Vec ℕ A)) (x : Vec ℕ A) → ws ≡ vs ++ x ∷ [] → x.items ≡ [] →
    ((k : ℕ) → get_or (map (λ b. b.items) vs) k [] ≡ []) → (k : ℕ) → get_or (map (λ b. b.items) ws) k [] ≡ []
rows-next vs ws x e n h k =
    ap (λ (l : List (Vec ℕ _)). get_or (map (λ b. b.items) l) k []) e
    ∙ ap (λ (l : List (List ℕ)). get_or l k []) (map_push (λ (b : Vec ℕ _). b.items) vs x) ∙ by (map (λ b. b.items) vs) x.items n h k
  where
    by : (ms : List (List ℕ)) (y : List ℕ) → y ≡ [] → ((k : ℕ) → get_or ms k [] ≡ []) → (k : ℕ) → get_or (ms ++ y ∷ []) k [] ≡ []
    by [] y e h zero = e
    by [] y e h (suc k) = refl
    by (m ∷ ms) y e h zero = h 0
    by (m ∷ ms) y e h (suc k) = by ms y e (λ i. h (suc i)) k

-- where a chunk of an array begins is written: the saved copies stay
pub set-copies : (bases new : Copies) (chunk b : ℕ) → new ≡ record bases { cells = slice_set bases.cells chunk b } → AreCopiesKept bases new
set-copies bases new chunk b e =
    subst (AreCopiesKept bases) (sym e) (record { words = refl; saved = refl; long = length-set bases.cells chunk b })

-- the others begin where they did
pub set-others : (bases new : Copies) (chunk b : ℕ) → new ≡ record bases { cells = slice_set bases.cells chunk b } → (j : ℕ) → j ≢ chunk →
    number_in_cell new j ≡ number_in_cell bases j
set-others bases new chunk b e j n = ap (λ (v : Copies). number_in_cell v j) e ∙ get_or-set_other bases.cells chunk j b 0 n

-- the chunk begins where it was written that it does
pub set-at : (bases new : Copies) (chunk b : ℕ) → new ≡ record bases { cells = slice_set bases.cells chunk b } → chunk < length bases.cells →
    number_in_cell new chunk ≡ b
set-at bases new chunk b e less = ap (λ (v : Copies). number_in_cell v chunk) e ∙ get_or-set_same bases.cells chunk b 0 less

-- a chunk that was written since is one of the array's
pub unsaved-inside : (words cells : List ℕ) (bases : Copies) (chunk : ℕ) → AreChunksKept words cells bases → chunk < length bases.cells →
    number_in_cell bases chunk ≡ 4294967295 → 64 * chunk + 64 ≤ length cells
unsaved-inside words cells bases chunk h less e = elim (cases_lt (64 * chunk) (length cells)) [
  | inl l ↦ (let whole = h.whole in omega (arith, whole, l))
  | inr n ↦ (let z = h.past_now chunk n less in absurd (omega (arith, z, e)))
]

-- chunks are kept among more words
pub chunks-more : (words more cells : List ℕ) (bases : Copies) → AreMoreWords words more → AreChunksKept words cells bases → AreChunksKept more cells bases
chunks-more words more cells bases m h = record {
  whole = h.whole;
  long = h.long;
  within = λ k j l. (let o = h.within k j l in omega (arith, o, m.longer));
  small = h.small;
  known = λ j l small. chunk-more words more cells j (number_in_cell bases j) m (h.known j l small);
  past_now = h.past_now;
  past_saved = h.past_saved;
}

-- chunks are kept where one chunk is put among more words
pub chunks-set : (words more cells : List ℕ) (bases new : Copies) (chunk b : ℕ) → AreMoreWords words more → chunk < length bases.cells →
    new ≡ record bases { cells = slice_set bases.cells chunk b } → 64 * chunk + 64 ≤ length cells → IsChunkAt more cells chunk b →
    AreChunksKept words cells bases → AreChunksKept more cells new
chunks-set words more cells bases new chunk b m less e inside at old =
    let h = chunks-more words more cells bases m old in
    let set : Copies = record bases { cells = slice_set bases.cells chunk b } in
    let long = length-set bases.cells chunk b in
    subst (AreChunksKept more cells) (sym e) (record {
      whole = h.whole;
      long = omega (arith, h.long, long);
      within = λ k j l. h.within k j (omega (arith, l, long));
      small = λ k j l. h.small k j (omega (arith, l, long));
      known = λ j l small. elim (cases_eq j chunk) [
        | inl q ↦ subst (λ (n : ℕ). IsChunkAt more cells n (get_or (slice_set bases.cells chunk b) n 0)) (sym q)
            (subst (IsChunkAt more cells chunk) (sym (get_or-set_same bases.cells chunk b 0 less)) at)
        | inr n ↦ (let o = get_or-set_other bases.cells chunk j b 0 n in
            subst (IsChunkAt more cells j) (sym o) (h.known j (omega (arith, l, long)) (subst (λ (x : ℕ). x < 4294967295) o small)))
      ];
      past_now = λ j high l. get_or-set_other bases.cells chunk j b 0 (λ q. omega (arith, q, high, inside))
          ∙ h.past_now j high (omega (arith, l, long));
      past_saved = λ k j high l. h.past_saved k j high (omega (arith, l, long));
    })

-- the copies are kept twice
pub copies-then : (a b c : Copies) → AreCopiesKept a b → AreCopiesKept b c → AreCopiesKept a c
copies-then a b c h k = record { words = k.words ∙ h.words; saved = k.saved ∙ h.saved; long = k.long ∙ h.long }

-- the chunks of the array that a saved copy has are stored
pub saved-below : (words cells : List ℕ) (bases : Copies) (near from end : ℕ) → AreChunksKept words cells bases → AreSaved bases from →
    AreSameBetween bases near from end → AreSaved bases end
saved-below words cells bases near from end kept saved same j low less = elim (cases_lt j from) [
  | inl l ↦ saved j l less
  | inr g ↦ (let small = kept.small near j less in let e = same j g low in omega (arith, small, e))
]

-- one chunk more is stored
pub saved-next : (words cells : List ℕ) (bases new : Copies) (near from chunk : ℕ) → AreChunksKept words cells bases → AreSaved bases from →
    AreSameBetween bases near from chunk → AreCopiesKept bases new → ((j : ℕ) → j ≢ chunk → number_in_cell new j ≡ number_in_cell bases j) →
    number_in_cell new chunk < 4294967295 → AreSaved new (chunk + 1)
saved-next words cells bases new near from chunk kept saved same copies others now j low less = elim (cases_eq j chunk) [
  | inl e ↦ subst (λ (k : ℕ). number_in_cell new k < 4294967295) (sym e) now
  | inr n ↦
      let below = saved-below words cells bases near from chunk kept saved same j (omega (arith, low, n)) (omega (arith, less, copies.long)) in
      omega (arith, below, others j n)
]
