-- Saved copies as rows of a list.
use Rattle.std.proofs.Common.{ℕ, zero, suc, ◌≡◌, ◌+◌, ◌*◌, ◌/◌, ◌%◌, ◌<◌, ◌≤◌}
use Rattle.std.proofs.Common.{arith, List, [], ◌∷◌, length, get_or, map, refl, sym, ap, ◌∙◌, subst}
use Rattle.std.proofs.Common.{inl, inr}
use Rattle.std.specs.Prelude.{Option, None, Some, slice_set}
use Rattle.std.specs.declared.vec.Vec.{Vec}
use Rattle.std.proofs.lemmas.Bool.{cases_eq, cases_lt}
use Rattle.std.proofs.lemmas.List.{get_or-set_other, get_or-set_same, get_or-map, map-set, length-map, length-set}
use Rattle.regalloc2_checker_sets.specs.SavedCopies.{number_in, IsChunkAt, AreClean, AreWithin, AreMoreWords, AreBases}

-- the items of a row
pub row-is : {A : Type 0} (vs : List (Vec ℕ A)) (k : ℕ) (x : Vec ℕ A) → k < length vs → x ≡ get_or vs k x → get_or (map (λ b. b.items) vs) k [] ≡ x.items
row-is vs k x less e = get_or-map (λ (b : Vec ℕ _). b.items) vs k x [] less ∙ ap (λ (b : Vec ℕ _). b.items) (sym e)

-- a row of a list is one of the vectors that make it
pub row-less : {A : Type 0} (vs : List (Vec ℕ A)) (saved : List (List ℕ)) (k : ℕ) → map (λ b. b.items) vs ≡ saved → k < length saved → k < length vs
row-less vs saved k e less = let a = length-map vs (λ (b : Vec ℕ _). b.items) in let d = ap (λ (l : List (List ℕ)). length l) e in omega arith

-- a row that is set is what it was set to
pub row-set_same : {A : Type 0} (vs : List (Vec ℕ A)) (k : ℕ) (x : Vec ℕ A) → k < length vs → get_or (map (λ b. b.items) (slice_set vs k x)) k [] ≡ x.items
row-set_same vs k x less =
    ap (λ (l : List (List ℕ)). get_or l k []) (map-set (λ (b : Vec ℕ _). b.items) vs k x)
    ∙ get_or-set_same (map (λ (b : Vec ℕ _). b.items) vs) k x.items [] (let a = length-map vs (λ (b : Vec ℕ _). b.items) in omega arith)

-- the rows that aren't set stay
pub row-set_other : {A : Type 0} (vs : List (Vec ℕ A)) (k j : ℕ) (x : Vec ℕ A) → (j ≡ k → ⊥) →
    get_or (map (λ b. b.items) (slice_set vs k x)) j [] ≡ get_or (map (λ b. b.items) vs) j []
row-set_other vs k j x n =
    ap (λ (l : List (List ℕ)). get_or l j []) (map-set (λ (b : Vec ℕ _). b.items) vs k x)
    ∙ get_or-set_other (map (λ (b : Vec ℕ _). b.items) vs) k j x.items [] n

-- rows within equal words are within them
pub within-as : (words ws bases row : List ℕ) → words ≡ ws → bases ≡ row → AreWithin words bases → AreWithin ws row
within-as words ws bases row e d h j =
    subst (λ (w : List ℕ). get_or row j 0 + 64 ≤ length w) e (subst (λ (r : List ℕ). get_or r j 0 + 64 ≤ length words) d (h j))

-- chunks that are known to be among the words are so under other names
pub clean-as : (words ws cells cs : List ℕ) (clean cl : List (Option ℕ)) → words ≡ ws → cells ≡ cs → clean ≡ cl → AreClean words cells clean → AreClean ws cs cl
clean-as words ws cells cs clean cl e d f h =
    subst (λ (x : List ℕ). AreClean x cs cl) e (subst (λ (x : List ℕ). AreClean words x cl) d (subst (λ (x : List (Option ℕ)). AreClean words cells x) f h))

-- more words
pub within-more : (words more bases : List ℕ) → AreMoreWords words more → AreWithin words bases → AreWithin more bases
within-more words more bases m h j = let a = m.longer in let b = h j in omega arith

-- with words put at the end, chunks within the words have the numbers that they had
pub number-kept : (words more bases : List ℕ) (i : ℕ) → AreMoreWords words more → AreWithin words bases → number_in more bases i ≡ number_in words bases i
number-kept words more bases i m h = let b = h (i / 64) in m.kept (get_or bases (i / 64) 0 + i % 64) (omega arith)

-- two options that are one hold one
pub some-same : {X : Type 0} (a b : X) → ◌≡◌ {A = Option X} (Some a) (Some b) → a ≡ b
some-same a b e = cc

-- zeros, also past the end
pub zeros : (l : List ℕ) (n i : ℕ) → length l ≡ n → ((k : ℕ) → k < n → get_or l k 0 ≡ 0) → get_or l i 0 ≡ 0
zeros l n i e h = elim (cases_lt i n) [
  | inl a ↦ h i a
  | inr a ↦ past l i (omega arith)
]
  where
    past : (l : List ℕ) (i : ℕ) → length l ≤ i → get_or l i 0 ≡ 0
    past [] i h = refl
    past (x ∷ l) zero h = absurd (omega arith)
    past (x ∷ l) (suc i) h = past l i (omega arith)

past : (l : List ℕ) (i : ℕ) → length l ≤ i → get_or l i 0 ≡ 0
past [] i h = refl
past (x ∷ l) zero h = absurd (omega arith)
past (x ∷ l) (suc i) h = past l i (omega arith)

-- the chunks of an array are within the words
pub bases-within : (words cells bases : List ℕ) (count : ℕ) → 64 ≤ length words → AreBases words cells bases count → AreWithin words bases
bases-within words cells bases count some h j = elim (cases_lt j count) [
  | inl l ↦ (h.chunks j l).within
  | inr g ↦ (let c = h.count_is in let e = past bases j (omega arith) in omega arith)
]

-- the chunks of an array have the array's numbers
pub bases-same : (words cells bases : List ℕ) (count i : ℕ) → length cells ≡ 64 * count → AreBases words cells bases count → i < length cells →
    number_in words bases i ≡ get_or cells i 0
bases-same words cells bases count i long h less =
    let e : 64 * (i / 64) + i % 64 ≡ i = omega arith in
    sym ((h.chunks (i / 64) (omega arith)).same (i % 64) (omega arith)) ∙ ap (λ n. get_or cells n 0) e

-- a number is written: its chunk is not clean any more
pub clean-set : (words cells : List ℕ) (clean : List (Option ℕ)) (position number : ℕ) → position / 64 < length clean → AreClean words cells clean →
    AreClean words (slice_set cells position number) (slice_set clean (position / 64) None)
clean-set words cells clean position number less h j b lj e = elim (cases_eq j (position / 64)) [
  | inl q ↦
      let d : get_or (slice_set clean (position / 64) None) j None ≡ None = ap (λ n. get_or (slice_set clean (position / 64) None) n None) q
      ∙ get_or-set_same clean (position / 64) None None less in
      absurd (none_some b (sym d ∙ e))
  | inr n ↦
      let d = get_or-set_other clean (position / 64) j None None n in
      let l = length-set clean (position / 64) None in
      let o : IsChunkAt words cells j b = h j b (omega arith) (sym d ∙ e) in
      record { within = o.within; same = λ t lt. get_or-set_other cells position (64 * j + t) number 0 (elsewhere j t n lt) ∙ o.same t lt }
]
  where
    none_some : (b : ℕ) → ◌≡◌ {A = Option ℕ} None (Some b) → ⊥
    none_some b e = absurd cc

    elsewhere : (j t : ℕ) → (j ≡ position / 64 → ⊥) → t < 64 → 64 * j + t ≡ position → ⊥
    elsewhere j t n lt e = n (let d : position / 64 ≡ j = ap (λ k. k / 64) (sym e) ∙ quotient j t lt in sym d)
      where
        quotient : (j t : ℕ) → t < 64 → (64 * j + t) / 64 ≡ j
        quotient j t lt = omega arith
