-- Lemmas on the parts of an output: moves of three words each.
use Rattle.std.proofs.Common.{ℕ, zero, suc, ◌≡◌, ◌≢◌, ◌<◌, ◌+◌, ◌*◌, ◌/◌, ◌%◌, List, [], ◌∷◌, ◌++◌, length, map, take, get_or, refl, sym, ap, ◌∙◌, subst, arith}
use Rattle.std.specs.List.{flat_map}
use Rattle.std.specs.Prelude.{All}
use Rattle.std.proofs.lemmas.List.{take_more}
use Rattle.std.proofs.lemmas.List.Elements.{All-append}
use Rattle.regalloc2_serialize.specs.Flat.Flat.{words_of_triple}

pub length_triples : (xs : List (ℕ × ℕ × ℕ)) → length (flat_map words_of_triple xs) ≡ 3 * length xs
length_triples [] = refl
length_triples (x ∷ xs) = let e = length_triples xs in omega (arith, e)

-- a number of words that isn't three times another one
pub no_triples : (words : List ℕ) → length words % 3 ≢ 0 → (xs : List (ℕ × ℕ × ℕ)) → words ≡ flat_map words_of_triple xs → ⊥
no_triples words h xs e = let n = ap length e ∙ length_triples xs in h (omega (arith, n))

-- words, three by three
triples : List ℕ → List (ℕ × ℕ × ℕ)
triples (a ∷ b ∷ c ∷ rest) = (a, b, c) ∷ triples rest
triples (a ∷ b ∷ []) = []
triples (a ∷ []) = []
triples [] = []

triples_back : (words : List ℕ) → length words % 3 ≡ 0 → words ≡ flat_map words_of_triple (triples words)
unfolding triples
triples_back [] h = refl
triples_back (a ∷ []) h = absurd (omega (arith, h))
triples_back (a ∷ b ∷ []) h = absurd (omega (arith, h))
triples_back (a ∷ b ∷ c ∷ rest) h = ap (λ xs. a ∷ b ∷ c ∷ xs) (triples_back rest (omega (arith, h)))

-- three words at a place
abbrev pub triple_at : List ℕ → ℕ → (ℕ × ℕ × ℕ)
triple_at words k = (get_or words (3 * k) 0, get_or words (3 * k + 1) 0, get_or words (3 * k + 2) 0)

-- the triples that are read from the words have what each triple has
triple_read : (P : (ℕ × ℕ × ℕ) → Type 0) (ts : List (ℕ × ℕ × ℕ)) (k : ℕ) → All P ts → 3 * k + 2 < length (flat_map words_of_triple ts) →
    P (triple_at (flat_map words_of_triple ts) k)
triple_read P [] k all less = absurd (omega (arith, less))
triple_read P (t ∷ ts) zero all less = all 0 t (omega arith)
triple_read P (t ∷ ts) (suc k) all less =
    let rest = triple_read P ts k (λ i x h. all (suc i) x (omega (arith, h))) (omega (arith, less)) in
    let ws = t.0 ∷ t.1 ∷ t.2 ∷ flat_map words_of_triple ts in
    let e0 : suc (suc (suc (3 * k))) ≡ 3 * suc k = omega arith in
    let e1 : suc (suc (suc (3 * k + 1))) ≡ 3 * suc k + 1 = omega arith in
    let e2 : suc (suc (suc (3 * k + 2))) ≡ 3 * suc k + 2 = omega arith in
    subst (λ j. P (get_or ws j 0, get_or ws (3 * suc k + 1) 0, get_or ws (3 * suc k + 2) 0)) e0
    (subst (λ j. P (get_or ws (suc (suc (suc (3 * k)))) 0, get_or ws j 0, get_or ws (3 * suc k + 2) 0)) e1
    (subst (λ j. P (get_or ws (suc (suc (suc (3 * k)))) 0, get_or ws (suc (suc (suc (3 * k + 1)))) 0, get_or ws j 0)) e2 rest))

-- if three words that are read don't have a property, some triple doesn't
pub not_all : (P : (ℕ × ℕ × ℕ) → Type 0) (words : List ℕ) (k : ℕ) → length words % 3 ≡ 0 → 3 * k + 2 < length words → (P (triple_at words k) → ⊥) →
    (ts : List (ℕ × ℕ × ℕ)) × (words ≡ flat_map words_of_triple ts) × (All P ts → ⊥)
not_all P words k whole less bad =
    let back = triples_back words whole in (
      triples words,
      back,
      λ all. bad (subst (λ ws. P (triple_at ws k)) (sym back)
          (triple_read P (triples words) k all (subst (λ ws. 3 * k + 2 < length ws) back less))),
    )

-- words that were read with the next three
assoc : (xs : List ℕ) (a b c : ℕ) → ((xs ++ a ∷ []) ++ b ∷ []) ++ c ∷ [] ≡ xs ++ a ∷ b ∷ c ∷ []
assoc [] a b c = refl
assoc (x ∷ xs) a b c = ap (λ ys. x ∷ ys) (assoc xs a b c)

take_triple : (words : List ℕ) (k : ℕ) → 3 * k + 2 < length words → take (3 * k) words ++ words_of_triple (triple_at words k) ≡ take (3 * (k + 1)) words
take_triple words k less =
    let t1 = take_more words (3 * k) 0 (omega arith) in
    let t2 = take_more words (3 * k + 1) 0 (omega arith) in
    let t3 = take_more words (3 * k + 2) 0 (omega arith) in
    let n2 : 3 * k + 1 + 1 ≡ 3 * k + 2 = omega arith in
    let n3 : 3 * k + 2 + 1 ≡ 3 * (k + 1) = omega arith in
    let w0 = get_or words (3 * k) 0 in
    let w1 = get_or words (3 * k + 1) 0 in
    let w2 = get_or words (3 * k + 2) 0 in
    sym (ap (λ j. take j words) (sym n3) ∙ t3
    ∙ ap (λ xs. xs ++ w2 ∷ []) (ap (λ j. take j words) (sym n2) ∙ t2 ∙ ap (λ xs. xs ++ w1 ∷ []) t1)
    ∙ assoc (take (3 * k) words) w0 w1 w2)

listed : {X : Type 0} (numbers : X → (ℕ × ℕ × ℕ)) (xs : List X) (e : X) → flat_map words_of_triple (map numbers (xs ++ e ∷ [])) ≡
    flat_map words_of_triple (map numbers xs) ++ words_of_triple (numbers e)
listed numbers [] e = refl
listed numbers (x ∷ xs) e = ap (λ ys. (numbers x).0 ∷ (numbers x).1 ∷ (numbers x).2 ∷ ys) (listed numbers xs e)

pub triple_added : {X : Type 0} (numbers : X → (ℕ × ℕ × ℕ)) (words : List ℕ) (k : ℕ) (xs new : List X) (e : X) → 3 * k + 2 < length words →
    flat_map words_of_triple (map numbers xs) ≡ take (3 * k) words → new ≡ xs ++ e ∷ [] → numbers e ≡ triple_at words k →
    flat_map words_of_triple (map numbers new) ≡ take (3 * (k + 1)) words
triple_added numbers words k xs new e less before added is =
    ap (λ ys. flat_map words_of_triple (map numbers ys)) added ∙ listed numbers xs e
    ∙ ap (λ ys. ys ++ words_of_triple (numbers e)) before ∙ ap (λ t. take (3 * k) words ++ words_of_triple t) is ∙ take_triple words k less

pub all_added : {X : Type 0} (P : X → Type 0) (xs new : List X) (e : X) → All P xs → new ≡ xs ++ e ∷ [] → P e → All P new
all_added P xs new e all added one =
    subst (All P) (sym added)
    (All-append P xs (e ∷ []) all (λ i x h. let z : i ≡ 0 = omega (arith, h) in subst (λ j. P (get_or (e ∷ []) j x)) (sym z) one))

-- all words were read
take_all : (ws : List ℕ) → take (length ws) ws ≡ ws
take_all [] = refl
take_all (w ∷ ws) = ap (λ xs. w ∷ xs) (take_all ws)

pub all_taken : {X : Type 0} (numbers : X → (ℕ × ℕ × ℕ)) (words : List ℕ) (k : ℕ) (xs : List X) → length words % 3 ≡ 0 → length words / 3 ≡ k →
    flat_map words_of_triple (map numbers xs) ≡ take (3 * k) words → words ≡ flat_map words_of_triple (map numbers xs)
all_taken numbers words k xs whole end same =
    let n : 3 * k ≡ length words = omega (arith, whole, end) in
    sym (same ∙ ap (λ j. take j words) n ∙ take_all words)
