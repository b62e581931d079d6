-- Choices, options, lists and sizes, whatever they are of.
use Rattle.std.proofs.Common.{ℕ, zero, suc, ◌≡◌, ◌⊎◌, inl, inr, ◌+◌, ◌-◌, ◌*◌, ◌%◌, ◌<◌, ◌≤◌, Bool, true, false, cond, List, [], ◌∷◌, ◌++◌}
use Rattle.std.proofs.Common.{length, take, drop, replicate, refl, sym, ap, ◌∙◌, arith, slice_index_or, slice_index, length-append, length-drop}
use Rattle.std.specs.Prelude.{None, Some}
use Rattle.std.specs.Int.{next_multiple_of}
use Rattle.std.proofs.lemmas.List.{length-take, get_or-take, get_or-drop, get_or-append-add, get_or_append_left}
use Rattle.std.proofs.lemmas.Nat.{mod_below}

-- which way a choice between three went
pub chosen : {X : Type 0} (a b : Bool) (x y z q : X) → cond a x (cond b y z) ≡ q
    → ((a ≡ true) × (x ≡ q)) ⊎ (((a ≡ false) × (b ≡ true) × (y ≡ q)) ⊎ ((a ≡ false) × (b ≡ false) × (z ≡ q)))
chosen true b x y z q h = inl (refl, h)
chosen false true x y z q h = inr (inl (refl, refl, h))
chosen false false x y z q h = inr (inr (refl, refl, h))

-- nothing is no value
pub no_some : {X : Type 0} (x : X) → None ≡ Some x → ⊥
no_some x h = cc

-- a list of one value has it everywhere
pub always : {X : Type 0} (n k : ℕ) (x : X) → slice_index_or (replicate n x) k x ≡ x
always zero k x = refl
always (suc n) zero x = refl
always (suc n) (suc k) x = always n k x

-- what holds of three numbers holds of each
pub each_of_three : (P : ℕ → Type 0) (a b c : ℕ) → P a → P b → P c → (k : ℕ) → k < 3 → P (slice_index (a ∷ b ∷ c ∷ []) k)
each_of_three P a b c p q r zero lt = p
each_of_three P a b c p q r (suc zero) lt = q
each_of_three P a b c p q r (suc (suc zero)) lt = r
each_of_three P a b c p q r (suc (suc (suc k))) lt = absurd (omega arith)

-- a part of a list that is written: what is inside, and what is outside
pub inside_part : {X : Type 0} (a k j : ℕ) (xs ys : List X) (d : X) → a ≤ length xs → j < length ys →
    slice_index_or (take a xs ++ (ys ++ drop k (drop a xs))) (a + j) d ≡ slice_index_or ys j d
inside_part a k j xs ys d le lt =
    let n : length (take a xs) ≡ a = length-take a xs ∙ omega arith in
    ap (λ (m : ℕ). slice_index_or (take a xs ++ (ys ++ drop k (drop a xs))) (m + j) d) (sym n) ∙ get_or-append-add (take a xs) (ys ++ drop k (drop a xs)) j d
    ∙ get_or_append_left ys (drop k (drop a xs)) d j lt

-- overwriting the k items from index a on leaves the items before a
pub below_part : {X : Type 0} (a k j : ℕ) (xs ys : List X) (d : X) → a ≤ length xs → j < a →
    slice_index_or (take a xs ++ (ys ++ drop k (drop a xs))) j d ≡ slice_index_or xs j d
below_part a k j xs ys d le lt =
    let n : length (take a xs) ≡ a = length-take a xs ∙ omega arith in
    get_or_append_left (take a xs) (ys ++ drop k (drop a xs)) d j (omega arith) ∙ get_or-take a xs j d lt

-- overwriting the k items from index a on by as many leaves the items from a + k on
pub above_part : {X : Type 0} (a k j : ℕ) (xs ys : List X) (d : X) → a ≤ length xs → length ys ≡ k → a + k ≤ j →
    slice_index_or (take a xs ++ (ys ++ drop k (drop a xs))) j d ≡ slice_index_or xs j d
above_part a k j xs ys d le same lt =
    let n : length (take a xs) ≡ a = length-take a xs ∙ omega arith in
    let r : ℕ = j - (a + k) in
    let at_j : j ≡ length (take a xs) + (length ys + r) = omega arith in
    let back : a + (k + r) ≡ j = omega arith in
    ap (λ (m : ℕ). slice_index_or (take a xs ++ (ys ++ drop k (drop a xs))) m d) at_j
    ∙ get_or-append-add (take a xs) (ys ++ drop k (drop a xs)) (length ys + r) d
    ∙ get_or-append-add ys (drop k (drop a xs)) r d ∙ get_or-drop k (drop a xs) r d ∙ get_or-drop a xs (k + r) d ∙ ap (λ (m : ℕ). slice_index_or xs m d) back

-- overwriting a part of a list by as many items leaves its length
pub length_part : {X : Type 0} (a k : ℕ) (xs ys : List X) → a + k ≤ length xs → length ys ≡ k → length (take a xs ++ (ys ++ drop k (drop a xs))) ≡ length xs
length_part a k xs ys le same =
    omega (
      arith,
      length-append (take a xs) (ys ++ drop k (drop a xs)),
      length-append ys (drop k (drop a xs)),
      length-take a xs,
      length-drop k (drop a xs),
      length-drop a xs,
    )

-- what begins at the next multiple of its size ends less than twice its size further on
pub end_near : (count size : ℕ) → 0 < size → next_multiple_of count size + size < count + 2 * size
end_near count size some = let h : (size - count % size) % size < size = mod_below (size - count % size) size some in omega (arith, h)
