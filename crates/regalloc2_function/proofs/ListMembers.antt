-- What is in a listing.
use Rattle.std.proofs.Common.{ℕ, zero, suc, ◌≡◌, ◌+◌, ◌-◌, ◌<◌, ◌≤◌, ◌⊎◌, Option, Some, None, List, [], ◌∷◌, ◌++◌, length, get_or, take, drop, refl}
use Rattle.std.proofs.Common.{sym, ap, subst, inl, inr, arith}
use Rattle.std.specs.Prelude.{All, Contains, filter_map, flat_map, map}
use Rattle.std.specs.List.{cons_option}
use Rattle.std.proofs.lemmas.List.Elements.{Contains-get_or, Contains-append_left, Contains-append_right, Contains-append_cases}
use Rattle.regalloc2_index.specs.Range.{numbers_from}
use Rattle.regalloc2_function.proofs.ListsInParts.{map_split, filter_split, flat_split, numbers_split}

in_here : {X : Type 0} (x : X) (xs : List X) → Contains (x ∷ xs) x
in_here x xs = (0, omega arith, refl)

in_tail : {X : Type 0} (y : X) (xs : List X) (x : X) → Contains xs x → Contains (y ∷ xs) x
in_tail y xs x h = (suc h.0, omega arith, h.2)

in_same : {X : Type 0} (xs ys : List X) (x : X) → xs ≡ ys → Contains ys x → Contains xs x
in_same xs ys x e h = subst (λ l. Contains l x) (sym e) h

in_middle : {X : Type 0} (whole xs ys zs : List X) (x : X) → whole ≡ (xs ++ ys) ++ zs → Contains ys x → Contains whole x
in_middle whole xs ys zs x e h = in_same whole ((xs ++ ys) ++ zs) x e (Contains-append_left (xs ++ ys) zs x (Contains-append_right xs ys x h))

-- what is in the list that an item maps to is in the flattened list
pub in_flat : {X Y : Type 0} (h : X → List Y) (xs : List X) (i : ℕ) (x : X) (y : Y) → i < length xs → x ≡ get_or xs i x → Contains (h x) y →
    Contains (flat_map h xs) y
in_flat h xs i x y less is m = in_middle (flat_map h xs) (flat_map h (take i xs)) (h x) (flat_map h (drop (i + 1) xs)) y (flat_split h xs i x less is) m

-- what is in a flattened list is in the list that some item maps to
pub from_flat : {X Y : Type 0} (h : X → List Y) (xs : List X) (y : Y) → Contains (flat_map h xs) y → (x : X) × Contains xs x × Contains (h x) y
from_flat h [] y m = absurd (omega (arith, m.1))
from_flat h (x ∷ xs) y m =
    elim (Contains-append_cases (h x) (flat_map h xs) y m) [
      | inl here ↦ (x, in_here x xs, here)
      | inr later ↦ (let r = from_flat h xs y later in (r.0, in_tail x xs r.0 r.1, r.2))
    ]

-- the image of a member is in the mapped list
pub in_map : {X Y : Type 0} (h : X → Y) (xs : List X) (x : X) → Contains xs x → Contains (map h xs) (h x)
in_map h xs x m = in_middle (map h xs) (map h (take m.0 xs)) (h x ∷ []) (map h (drop (m.0 + 1) xs)) (h x) (map_split h xs m.0 x m.1 (sym m.2))
    (in_here (h x) [])

-- what is in a mapped list is the image of some member
pub from_map : {X Y : Type 0} (h : X → Y) (xs : List X) (y : Y) → Contains (map h xs) y → (x : X) × Contains xs x × (h x ≡ y)
from_map h [] y m = absurd (omega (arith, m.1))
from_map h (x ∷ xs) y m =
    elim (Contains-append_cases (h x ∷ []) (map h xs) y m) [
      | inl here ↦ (x, in_here x xs, only (h x) y here)
      | inr later ↦ (let r = from_map h xs y later in (r.0, in_tail x xs r.0 r.1, r.2))
    ]
  where
    only : {X : Type 0} (x y : X) → Contains (x ∷ []) y → x ≡ y
    only x y m = first m.0 m.1 m.2
      where
        first : (k : ℕ) → k < length (x ∷ []) → get_or (x ∷ []) k y ≡ y → x ≡ y
        first zero less at = at
        first (suc k) less at = absurd (omega arith)

-- the image of a member that has one is in the filtered list
pub in_filter : {X Y : Type 0} (h : X → Option Y) (xs : List X) (x : X) (y : Y) → h x ≡ Some y → Contains xs x → Contains (filter_map h xs) y
in_filter h xs x y e m =
    in_middle (filter_map h xs) (filter_map h (take m.0 xs)) (filter_map h (x ∷ [])) (filter_map h (drop (m.0 + 1) xs)) y
    (filter_split h xs m.0 x m.1 (sym m.2))
    (in_same (filter_map h (x ∷ [])) (y ∷ []) y (ap (λ o. cons_option o []) e) (in_here y []))

cons_cases : {X : Type 0} (o : Option X) (xs : List X) (y : X) → Contains (cons_option o xs) y → (o ≡ Some y) ⊎ Contains xs y
cons_cases None xs y m = inr m
cons_cases (Some x) xs y m = first m.0 m.1 m.2
  where
    first : (k : ℕ) → k < length (x ∷ xs) → get_or (x ∷ xs) k y ≡ y → (Some x ≡ Some y) ⊎ Contains xs y
    first zero less at = inl (ap Some at)
    first (suc k) less at = inr (k, omega arith, at)

-- what is in a filtered list is the image of some member
pub from_filter : {X Y : Type 0} (h : X → Option Y) (xs : List X) (y : Y) → Contains (filter_map h xs) y → (x : X) × Contains xs x × (h x ≡ Some y)
from_filter h [] y m = absurd (omega (arith, m.1))
from_filter h (x ∷ xs) y m =
    elim (cons_cases (h x) (filter_map h xs) y m) [
      | inl here ↦ (x, in_here x xs, here)
      | inr later ↦ (let r = from_filter h xs y later in (r.0, in_tail x xs r.0 r.1, r.2))
    ]

-- what is in the list that a number of a range maps to is in the list flattened over the range
pub in_numbers : {Y : Type 0} (h : ℕ → List Y) (n k i : ℕ) (y : Y) → n ≤ i → i < n + k → Contains (h i) y → Contains (flat_map h (numbers_from n k)) y
in_numbers h n k i y low high m =
    let at : n + (i - n) ≡ i = omega arith in
    in_middle (flat_map h (numbers_from n k)) (flat_map h (numbers_from n (i - n))) (h (n + (i - n)))
    (flat_map h (numbers_from (n + (i - n) + 1) (k - (i - n) - 1))) y (numbers_split h n k (i - n) (omega arith)) (subst (λ j. Contains (h j) y) (sym at) m)

-- what is in a list flattened over a range is in the list that some number of the range maps to
pub from_numbers : {Y : Type 0} (h : ℕ → List Y) (n k : ℕ) (y : Y) → Contains (flat_map h (numbers_from n k)) y → (i : ℕ) × (n ≤ i) × (i < n + k)
    × Contains (h i) y
from_numbers h n zero y m = absurd (omega (arith, m.1))
from_numbers h n (suc k) y m =
    elim (Contains-append_cases (h n) (flat_map h (numbers_from (n + 1) k)) y m) [
      | inl here ↦ (n, omega arith, omega arith, here)
      | inr later ↦ (let r = from_numbers h (n + 1) k y later in (r.0, omega (arith, r.1), omega (arith, r.2), r.3))
    ]

-- a fact of each member is one of each index
pub all_members : {X : Type 0} (P : X → Type 0) (xs : List X) → ((x : X) → Contains xs x → P x) → All P xs
all_members P xs h k d less = h (get_or xs k d) (Contains-get_or xs k d less)
