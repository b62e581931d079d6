-- Lists that are copied item by item.
use Rattle.std.proofs.Common.{◌≡◌, ℕ, ◌+◌, ◌<◌, List, [], ◌∷◌, ◌++◌, length, map, take, get_or, refl}
use Rattle.std.proofs.lemmas.List.{take_more, map-append}

-- lists that agree under two views agree with one more item of each
pub map-more : {X Y Z : Type 0} (f : X → Z) (h : Y → Z) (xs : List X) (ys : List Y) (i : ℕ) (x : X) (y : Y) →
    i < length ys → y ≡ get_or ys i y → f x ≡ h y → map f xs ≡ map h (take i ys) → map f (xs ++ x ∷ []) ≡ map h (take (i + 1) ys)
map-more f h xs ys i x y less is here before =
    rw (map-append f xs (x ∷ []), take_more ys i y less, ← is, map-append h (take i ys) (y ∷ []), before, here) refl

-- a list whose image is the beginning of another has it with one more item of each
pub image-more : {X Y : Type 0} (f : X → Y) (xs : List X) (ys : List Y) (i : ℕ) (x : X) (y : Y) →
    i < length ys → y ≡ get_or ys i y → f x ≡ y → map f xs ≡ take i ys → map f (xs ++ x ∷ []) ≡ take (i + 1) ys
image-more f xs ys i x y less is here before = rw (map-append f xs (x ∷ []), take_more ys i y less, ← is, before, here) refl

-- a list that is the image of another's beginning is so with one more item of each
pub more-of-image : {X Y : Type 0} (f : X → Y) (xs : List X) (ys : List Y) (i : ℕ) (d : X) (y : Y) →
    i < length xs → y ≡ f (get_or xs i d) → ys ≡ map f (take i xs) → ys ++ y ∷ [] ≡ map f (take (i + 1) xs)
more-of-image f xs ys i d y less here before = rw (take_more xs i d less, map-append f (take i xs) (get_or xs i d ∷ []), before, here) refl
