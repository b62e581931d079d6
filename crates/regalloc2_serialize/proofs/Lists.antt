-- Lists that are walked side by side.
use Rattle.std.proofs.Common.{◌≡◌, ◌∙◌, ℕ, ◌+◌, ◌<◌, List, [], ◌∷◌, ◌++◌, length, map, take, get_or, ap, sym, subst, refl, arith}
use Rattle.std.specs.List.{AllZip}
use Rattle.std.specs.Prelude.{All}
use Rattle.std.proofs.lemmas.List.Elements.{All-map}
use Rattle.std.proofs.lemmas.List.{append_assoc, get_or-map, take_more, length-map, map-append}
use Rattle.std.proofs.lemmas.Slice.Zip.{all_zipped_more}

-- numbers of two lists agree at an index
pub same-at : {X Y : Type 0} (f : X → ℕ) (g : Y → ℕ) (xs : List X) (ys : List Y) (i : ℕ) (x : X) (y : Y) →
    i < length xs → i < length ys → x ≡ get_or xs i x → y ≡ get_or ys i y → map f xs ≡ map g ys → f x ≡ g y
same-at f g xs ys i x y lx ly ix iy same =
    ap f ix ∙ sym (get_or-map f xs i x 0 lx) ∙ ap (λ (l : List ℕ). get_or l i 0) same ∙ get_or-map g ys i y 0 ly ∙ ap g (sym iy)

-- one more number of both
pub same-more : {X Y : Type 0} (f : X → ℕ) (g : Y → ℕ) (xs : List X) (ys : List Y) (i : ℕ) (x : X) (y : Y) →
    i < length xs → i < length ys → x ≡ get_or xs i x → y ≡ get_or ys i y → f x ≡ g y →
    take i (map f xs) ≡ take i (map g ys) → take (i + 1) (map f xs) ≡ take (i + 1) (map g ys)
same-more f g xs ys i x y lx ly ix iy here same =
    let a : get_or (map f xs) i 0 ≡ f x = get_or-map f xs i x 0 lx ∙ ap f (sym ix) in
    let b : get_or (map g ys) i 0 ≡ g y = get_or-map g ys i y 0 ly ∙ ap g (sym iy) in
    rw (take_more (map f xs) i 0 (rw length-map lx), take_more (map g ys) i 0 (rw length-map ly), a, b, here, same) refl

-- one more pair
pub zip-more : {X Y Z : Type 0} (R : X → Y → Type 0) (f : Z → Y) (xs : List X) (zs : List Z) (i : ℕ) (x : X) (z : Z) →
    i < length xs → x ≡ get_or xs i x → AllZip R (take i xs) (map f zs) → R x (f z) → AllZip R (take (i + 1) xs) (map f (zs ++ z ∷ []))
zip-more R f xs zs i x z less is before here =
    rw (take_more xs i x less, ← is, map-append f zs (z ∷ [])) (all_zipped_more R (take i xs) (map f zs) x (f z) before here)

-- three pairs
pub three-zipped : {X Y : Type 0} (R : X → Y → Type 0) (xs : List X) (a b c : X) (s t u : Y) → length xs ≡ 3 →
    a ≡ get_or xs 0 a → b ≡ get_or xs 1 b → c ≡ get_or xs 2 c → R a s → R b t → R c u → AllZip R xs (s ∷ t ∷ u ∷ [])
three-zipped R [] a b c s t u long ia ib ic ra rb rc = absurd (omega (arith, long))
three-zipped R (x ∷ []) a b c s t u long ia ib ic ra rb rc = absurd (omega (arith, long))
three-zipped R (x ∷ y ∷ []) a b c s t u long ia ib ic ra rb rc = absurd (omega (arith, long))
three-zipped R (x ∷ y ∷ z ∷ []) a b c s t u long ia ib ic ra rb rc =
    (subst (λ w. R w s) ia ra, (subst (λ w. R w t) ib rb, (subst (λ w. R w u) ic rc, tt)))
three-zipped R (x ∷ y ∷ z ∷ w ∷ ws) a b c s t u long ia ib ic ra rb rc = absurd (omega (arith, long))

-- what each has under one view, each has under another that gives the same list
pub all-under : {X Y Z : Type 0} (P : Y → Type 0) (f : X → Y) (h : Z → Y) (xs : List X) (zs : List Z) →
    map f xs ≡ map h zs → All (λ z. P (h z)) zs → All (λ x. P (f x)) xs
all-under P f h xs zs same all k d less =
    subst P (get_or-map f xs k d (f d) less) (subst (λ l. P (get_or l k (f d))) (sym same)
    (All-map P h zs all k (f d) (rw (← ap length same, length-map) less)))

-- one more pair, by the second list
pub zip-next : {X Y : Type 0} (R : X → Y → Type 0) (xs : List X) (ys : List Y) (i : ℕ) (x : X) (y : Y) →
    i < length ys → y ≡ get_or ys i y → AllZip R xs (take i ys) → R x y → AllZip R (xs ++ x ∷ []) (take (i + 1) ys)
zip-next R xs ys i x y less is before here = rw (take_more ys i y less, ← is) (all_zipped_more R xs (take i ys) x y before here)

-- lists related item by item stay so with the next item, where the second list is read through a function
pub zip-next-under : {X Y Z : Type 0} (R : X → Z → Type 0) (f : Y → Z) (xs : List X) (ys : List Y) (i : ℕ) (x : X) (y : Y) →
    i < length ys → y ≡ get_or ys i y → AllZip R xs (take i (map f ys)) → R x (f y) → AllZip R (xs ++ x ∷ []) (take (i + 1) (map f ys))
zip-next-under R f xs ys i x y less is before here =
    zip-next R xs (map f ys) i x (f y) (rw length-map less) (ap f is ∙ sym (get_or-map f ys i y (f y) less)) before here

-- lists that agree under two views agree with an item more of each
pub map-both : {X Y Z : Type 0} (f : X → Z) (h : Y → Z) (xs zs : List X) (x : X) (ys : List Y) (y : Y) →
    zs ≡ xs ++ x ∷ [] → f x ≡ h y → map f xs ≡ map h ys → map f zs ≡ map h (ys ++ y ∷ [])
map-both f h xs zs x ys y is here before = rw (is, map-append f xs (x ∷ []), map-append h ys (y ∷ []), before, here) refl

-- lists that agree under two views agree with one more item of each
pub map-more : {X Y Z : Type 0} (f : X → Z) (h : Y → Z) (xs : List X) (ys : List Y) (i : ℕ) (x : X) (y : Y) →
    i < length ys → y ≡ get_or ys i y → f x ≡ h y → map f xs ≡ map h (take i ys) → map f (xs ++ x ∷ []) ≡ map h (take (i + 1) ys)
map-more f h xs ys i x y less is here before =
    rw (map-append f xs (x ∷ []), take_more ys i y less, ← is, map-append h (take i ys) (y ∷ []), before, here) refl

-- a list whose image is the beginning of another has it with one more item of each
pub image-more : {X Y : Type 0} (f : X → Y) (xs : List X) (ys : List Y) (i : ℕ) (x : X) (y : Y) →
    i < length ys → y ≡ get_or ys i y → f x ≡ y → map f xs ≡ take i ys → map f (xs ++ x ∷ []) ≡ take (i + 1) ys
image-more f xs ys i x y less is here before = rw (map-append f xs (x ∷ []), take_more ys i y less, ← is, before, here) refl

-- a list that is the image of another's beginning is so with one more item of each
pub more-of-image : {X Y : Type 0} (f : X → Y) (xs : List X) (ys : List Y) (i : ℕ) (d : X) (y : Y) →
    i < length xs → y ≡ f (get_or xs i d) → ys ≡ map f (take i xs) → ys ++ y ∷ [] ≡ map f (take (i + 1) xs)
more-of-image f xs ys i d y less here before = rw (take_more xs i d less, map-append f (take i xs) (get_or xs i d ∷ []), before, here) refl

-- a copy of a list's beginning with one more item
pub copy-more : {X : Type 0} (xs ys : List X) (i : ℕ) (x y : X) → i < length ys → y ≡ get_or ys i y → x ≡ y → xs ≡ take i ys → xs ++ x ∷ [] ≡ take (i + 1) ys
copy-more xs ys i x y less is here before = rw (take_more ys i y less, ← is, before, here) refl

-- what each member of a mapped list has, each member has under the map
pub all-from-map : {X Y : Type 0} (P : Y → Type 0) (f : X → Y) (xs : List X) → All P (map f xs) → All (λ x. P (f x)) xs
all-from-map P f xs all k d less = subst P (get_or-map f xs k d (f d) less) (all k (f d) (rw length-map less))

-- a list whose image and what is left of a walk are the walk has it with one more item, which the walk gave
pub walked-more : {X Y : Type 0} (f : X → Y) (done : List X) (x : X) (y : Y) (left rest all : List Y) →
    left ≡ y ∷ rest → f x ≡ y → map f done ++ left ≡ all → map f (done ++ x ∷ []) ++ rest ≡ all
walked-more f done x y left rest all is here before =
    ap (λ zs. zs ++ rest) (map-append f done (x ∷ [])) ∙ append_assoc (map f done) (f x ∷ []) rest ∙ rw here (ap (λ zs. map f done ++ zs) (sym is)) ∙ before
