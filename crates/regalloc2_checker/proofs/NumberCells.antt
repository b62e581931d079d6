-- Numbers in cells, of which each has one or none, and numbers beside them.
use Rattle.std.proofs.Common.{ℕ, zero, suc, ◌≡◌, ◌+◌, ◌<◌, ◌≤◌, inl, inr, arith, List, [], ◌∷◌, ◌++◌, length, get_or, take, drop, refl, sym, ap, ◌∙◌, subst}
use Rattle.std.proofs.Common.{Option, None, Some, set, replicate}
use Rattle.std.specs.Prelude.{◌↔◌, ◌⊎◌, Contains}
use Rattle.std.specs.List.{flat_map}
use Rattle.std.specs.Option.{option_to_list}
use Rattle.std.proofs.lemmas.List.{append_assoc, take-append-drop, take-set, drop-set, drop_more, take_more}
use Rattle.std.proofs.lemmas.List.Concat.{get_or-flat_map, flat_map-cons}
use Rattle.std.proofs.lemmas.List.Folds.{length-flat_map-take}
use Rattle.std.proofs.lemmas.List.Elements.{Contains-append_left, Contains-append_right, Contains-append_cases, Contains-push, Contains-push_cases}
use Rattle.std.proofs.lemmas.Grind.{flat_map-append}

-- a number that is put between others is beside them
pub number-between : (ls bs : List ℕ) (x n : ℕ) → Contains (ls ++ (x ∷ bs)) n ↔ (Contains (ls ++ bs) n ⊎ (n ≡ x))
number-between ls bs x n = (λ h. forth (Contains-append_cases ls (x ∷ bs) n h), back)
  where
    one : Contains [] n ⊎ (x ≡ n) → n ≡ x
    one (inl (k, less, at)) = absurd (omega (arith, less))
    one (inr e) = sym e

    later : Contains (x ∷ []) n ⊎ Contains bs n → Contains (ls ++ bs) n ⊎ (n ≡ x)
    later (inl h) = inr (one (Contains-push_cases [] x n h))
    later (inr h) = inl (Contains-append_right ls bs n h)

    forth : Contains ls n ⊎ Contains (x ∷ bs) n → Contains (ls ++ bs) n ⊎ (n ≡ x)
    forth (inl h) = inl (Contains-append_left ls bs n h)
    forth (inr h) = later (Contains-append_cases (x ∷ []) bs n h)

    among : Contains ls n ⊎ Contains bs n → Contains (ls ++ (x ∷ bs)) n
    among (inl h) = Contains-append_left ls (x ∷ bs) n h
    among (inr h) = Contains-append_right ls (x ∷ bs) n (Contains-append_right (x ∷ []) bs n h)

    back : Contains (ls ++ bs) n ⊎ (n ≡ x) → Contains (ls ++ (x ∷ bs)) n
    back (inl h) = among (Contains-append_cases ls bs n h)
    back (inr e) = subst (λ (m : ℕ). Contains (ls ++ (x ∷ bs)) m) (sym e)
        (Contains-append_right ls (x ∷ bs) x (Contains-append_left (x ∷ []) bs x (Contains-push [] x)))

-- a number that an empty cell gets is beside the numbers of the other cells
pub cell-filled : (cs : List (Option ℕ)) (i x : ℕ) (os : List ℕ) → i < length cs → get_or cs i None ≡ None → (n : ℕ) →
    Contains (flat_map option_to_list (set cs i (Some x)) ++ os) n ↔ (Contains (flat_map option_to_list cs ++ os) n ⊎ (n ≡ x))
cell-filled cs i x os less none n = subst (λ (l : List ℕ). Contains l n ↔ (Contains (flat_map option_to_list cs ++ os) n ⊎ (n ≡ x))) (sym new)
    (subst (λ (l : List ℕ). Contains (before ++ (x ∷ (after ++ os))) n ↔ (Contains l n ⊎ (n ≡ x))) (sym old) (number-between before (after ++ os) x n))
  where
    before : List ℕ
    before = flat_map option_to_list (take i cs)

    after : List ℕ
    after = flat_map option_to_list (drop (i + 1) cs)

    split : (ds : List (Option ℕ)) → flat_map option_to_list ds ≡ flat_map option_to_list (take i ds) ++ flat_map option_to_list (drop i ds)
    split ds = ap (flat_map option_to_list) (sym (take-append-drop i ds)) ∙ flat_map-append option_to_list (take i ds) (drop i ds)

    changed : flat_map option_to_list (drop i (set cs i (Some x))) ≡ x ∷ after
    changed = ap (flat_map option_to_list) (drop-set cs i (Some x) less) ∙ flat_map-cons option_to_list (Some x) (drop (i + 1) cs)

    left : flat_map option_to_list (drop i cs) ≡ after
    left = ap (flat_map option_to_list) (drop_more cs i None less ∙ ap (λ (c : Option ℕ). c ∷ drop (i + 1) cs) none)
        ∙ flat_map-cons option_to_list None (drop (i + 1) cs)

    new : flat_map option_to_list (set cs i (Some x)) ++ os ≡ before ++ (x ∷ (after ++ os))
    new = ap (λ (l : List ℕ). l ++ os) (split (set cs i (Some x)) ∙ ap (λ (l : List ℕ). flat_map option_to_list (take i (set cs i (Some x))) ++ l) changed
        ∙ ap (λ (l : List (Option ℕ)). flat_map option_to_list l ++ (x ∷ after)) (take-set cs i (Some x))) ∙ append_assoc before (x ∷ after) os

    old : flat_map option_to_list cs ++ os ≡ before ++ (after ++ os)
    old = ap (λ (l : List ℕ). l ++ os) (split cs ∙ ap (λ (l : List ℕ). before ++ l) left) ∙ append_assoc before after os

-- the number of a cell is among the numbers of all cells
pub cell-listed : (cs : List (Option ℕ)) (i x : ℕ) (os : List ℕ) → i < length cs → get_or cs i None ≡ Some x →
    Contains (flat_map option_to_list cs ++ os) x
cell-listed cs i x os less some = Contains-append_left (flat_map option_to_list cs) os x (at, omega (arith, within), is)
  where
    at : ℕ
    at = length (flat_map option_to_list (take i cs)) + 0

    long : length (option_to_list (get_or cs i None)) ≡ 1
    long = ap (λ (c : Option ℕ). length (option_to_list c)) some

    within : length (flat_map option_to_list (take i cs)) + 1 ≤ length (flat_map option_to_list cs)
    within = subst (λ k. length (flat_map option_to_list (take i cs)) + k ≤ length (flat_map option_to_list cs)) long
        (length-flat_map-take option_to_list cs i None less)

    first : 0 < length (option_to_list (get_or cs i None))
    first = omega (arith, long)

    is : get_or (flat_map option_to_list cs) at x ≡ x
    is = get_or-flat_map option_to_list cs i 0 None x less first ∙ ap (λ (c : Option ℕ). get_or (option_to_list c) 0 x) some

-- a number that is listed is listed again
pub listed-again : (xs : List ℕ) (x : ℕ) → Contains xs x → (n : ℕ) → Contains xs n ↔ (Contains xs n ⊎ (n ≡ x))
listed-again xs x h n = (inl, back)
  where
    back : Contains xs n ⊎ (n ≡ x) → Contains xs n
    back (inl g) = g
    back (inr e) = subst (Contains xs) (sym e) h

-- the numbers of one more cell
pub cells-more : (cs : List (Option ℕ)) (k : ℕ) (ns : List ℕ) → k < length cs → ns ≡ flat_map option_to_list (take k cs) →
    ns ++ option_to_list (get_or cs k None) ≡ flat_map option_to_list (take (k + 1) cs)
cells-more cs k ns less e = ap (λ (l : List ℕ). l ++ option_to_list (get_or cs k None)) e
    ∙ sym (ap (flat_map option_to_list) (take_more cs k None less) ∙ flat_map-append option_to_list (take k cs) (get_or cs k None ∷ [])
    ∙ ap (λ (l : List ℕ). flat_map option_to_list (take k cs) ++ l) (one (get_or cs k None)))
  where
    one : (c : Option ℕ) → flat_map option_to_list (c ∷ []) ≡ option_to_list c
    one None = refl
    one (Some x) = refl

-- cells that were made without a number
pub cells-made : (n : ℕ) → ◌≡◌ {A = List ℕ} (flat_map option_to_list (replicate {A = Option ℕ} n None)) []
cells-made zero = refl
cells-made (suc n) = flat_map-cons option_to_list None (replicate n None) ∙ cells-made n
