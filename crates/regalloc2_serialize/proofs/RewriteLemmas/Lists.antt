-- Lists that are mapped and summed.
use Rattle.std.proofs.Common.{◌≡◌, ◌∙◌, ℕ, ◌+◌, ◌<◌, List, [], ◌∷◌, ◌++◌, length, get_or, map, take, refl, sym, ap, subst, arith}
use Rattle.std.specs.Prelude.{All, sum_by}
use Rattle.std.specs.List.{range_with_len}
use Rattle.std.proofs.lemmas.List.{ext_get_or, get_or-map, length-map, map-append, take_more}
use Rattle.std.proofs.lemmas.List.Elements.{All-head, All-tail}
use Rattle.std.proofs.lemmas.List.FromFn.{get_or-map-range_with_len, length-map-range_with_len, map-range_with_len_more}
use Rattle.std.proofs.lemmas.List.Sums.{sum_by-cons}

-- two functions that agree on each member of a list map it to equal lists
pub map-alike : {X Y : Type 0} (f h : X → Y) (xs : List X) → All (λ x. f x ≡ h x) xs → map f xs ≡ map h xs
map-alike f h [] all = refl
map-alike f h (x ∷ xs) all =
    rw (All-head (λ x. f x ≡ h x) x xs all, map-alike f h xs (All-tail (λ x. f x ≡ h x) x xs all)) refl

-- one more member on both sides of two maps that agree
pub map-taken : {X Y Z : Type 0} (f : X → Z) (h : Y → Z) (xs : List X) (x : X) (ys : List Y) (k : ℕ) (y : Y) → k < length ys → y ≡ get_or ys k y →
    f x ≡ h y → map f xs ≡ map h (take k ys) → map f (xs ++ x ∷ []) ≡ map h (take (k + 1) ys)
map-taken f h xs x ys k y less is same before =
    let split : take (k + 1) ys ≡ take k ys ++ y ∷ [] = take_more ys k y less ∙ ap (λ z. take k ys ++ z ∷ []) (sym is) in
    rw (split, map-append f xs (x ∷ []), map-append h (take k ys) (y ∷ []), before, same) refl

-- a list is its members by number
pub members : {X : Type 0} (xs : List X) (d : X) → map (λ i. get_or xs i d) (range_with_len 0 (length xs)) ≡ xs
members {X = X} xs d = ext_get_or d by-number xs (length-map-range_with_len f 0 (length xs)) at
  where
    f : ℕ → X
    f i = get_or xs i d

    by-number : List X
    by-number = map f (range_with_len 0 (length xs))

    at : (i : ℕ) → i < length by-number → get_or by-number i d ≡ get_or xs i d
    at i less =
        let inside : i < length xs = omega (arith, less, length-map-range_with_len f 0 (length xs)) in
        get_or-map-range_with_len f 0 (length xs) i i d inside (omega arith)

pub sum_by-map : {X Y : Type 0} (h : Y → ℕ) (f : X → Y) (xs : List X) → sum_by h (map f xs) ≡ sum_by (λ x. h (f x)) xs
sum_by-map h f [] = refl
sum_by-map h f (x ∷ xs) = sum_by-cons h (f x) (map f xs) ∙ omega (arith, sum_by-map h f xs, sum_by-cons (λ x. h (f x)) x xs)

pub sum_by-alike : {X : Type 0} (h k : X → ℕ) (xs : List X) → ((x : X) → h x ≡ k x) → sum_by h xs ≡ sum_by k xs
sum_by-alike h k [] same = refl
sum_by-alike h k (x ∷ xs) same = sum_by-cons h x xs ∙ omega (arith, same x, sum_by-alike h k xs same, sum_by-cons k x xs)

-- one more member of a list that is a function of its positions
pub filled-more : {X : Type 0} (h : ℕ → X) (xs : List X) (x : X) (k : ℕ) → xs ≡ map h (range_with_len 0 k) → x ≡ h k →
    xs ++ x ∷ [] ≡ map h (range_with_len 0 (k + 1))
filled-more h xs x k before here =
    let at : 0 + k ≡ k = omega arith in
    rw (before, here, map-range_with_len_more h 0 k k at) refl

-- what each member of a mapped list has, each member has under the map
pub all-from-map : {X Y : Type 0} (P : Y → Type 0) (f : X → Y) (xs : List X) → All P (map f xs) → All (λ x. P (f x)) xs
all-from-map P f xs all k d less = subst P (get_or-map f xs k d (f d) less) (all k (f d) (rw length-map less))
