-- Lists that are read from the front, part by part.
use Rattle.std.proofs.Common.{ℕ, zero, suc, ◌≡◌, ◌+◌, ◌-◌, ◌<◌, ◌≤◌, List, [], ◌∷◌, ◌++◌, Option, length, get_or, take, drop, refl, sym, ap, ◌∙◌, subst, inl, inr}
use Rattle.std.proofs.Common.{append_assoc, append-nil, add-one, arith}
use Rattle.std.specs.Prelude.{All, filter_map, flat_map, map}
use Rattle.std.proofs.Math.Seq.{drop-cons}
use Rattle.std.proofs.lemmas.Grind.{flat_map-append}
use Rattle.std.proofs.lemmas.List.{get_or_append_left, get_or-append-add, get_or-take, length-append, length-take-le}
use Rattle.std.proofs.lemmas.List.{map-append, take-append-drop, take_all, take_more}
use Rattle.std.proofs.lemmas.Bool.{cases_lt}
use Rattle.std.proofs.lemmas.List.Elements.{All-cons, All-head, All-nil, All-push, All-same, All-tail}
use Rattle.std.proofs.lemmas.List.Elements.{filter_map-append}
use Rattle.regalloc2_index.specs.Range.{numbers_from}
use Rattle.regalloc2_function.specs.Reasons.{IsFirstIn}

-- a list, as what comes before an index, the item there, and what comes after it
pub split_at : {X : Type 0} (xs : List X) (i : ℕ) (x : X) → i < length xs → x ≡ get_or xs i x → xs ≡ (take i xs ++ x ∷ []) ++ drop (i + 1) xs
split_at xs i x less is =
    sym (take-append-drop i xs) ∙ ap (λ l. take i xs ++ l) (drop-cons xs i x less) ∙ ap (λ y. take i xs ++ y ∷ drop (suc i) xs) (sym is)
    ∙ ap (λ n. take i xs ++ x ∷ drop n xs) (sym (add-one i)) ∙ sym (append_assoc (take i xs) (x ∷ []) (drop (i + 1) xs))

-- the first i + 1 items of a list are the first i and then the item at i
pub one_more : {X : Type 0} (xs : List X) (i : ℕ) (x : X) → i < length xs → x ≡ get_or xs i x → take (i + 1) xs ≡ take i xs ++ x ∷ []
one_more xs i x less is = take_more xs i x less ∙ ap (λ y. take i xs ++ y ∷ []) (sym is)

-- a mapped list is that of the items before i, then the image of the item at i, then that of the items after it
pub map_split : {X Y : Type 0} (h : X → Y) (xs : List X) (i : ℕ) (x : X) → i < length xs → x ≡ get_or xs i x → map h xs ≡ (map h (take i xs) ++ h x ∷ [])
    ++ map h (drop (i + 1) xs)
map_split h xs i x less is = ap (map h) (split_at xs i x less is) ∙ map-append h (take i xs ++ x ∷ []) (drop (i + 1) xs)
    ∙ ap (λ l. l ++ map h (drop (i + 1) xs)) (map-append h (take i xs) (x ∷ []))

-- the first i + 1 items, mapped, are the first i mapped and then the image of the item at i
pub map_more : {X Y : Type 0} (h : X → Y) (xs : List X) (i : ℕ) (x : X) → i < length xs → x ≡ get_or xs i x → map h (take (i + 1) xs) ≡ map h (take i xs)
    ++ h x ∷ []
map_more h xs i x less is = ap (map h) (one_more xs i x less is) ∙ map-append h (take i xs) (x ∷ [])

-- a filtered list is that of the items before i, then that of the item at i alone, then that of the items after it
pub filter_split : {X Y : Type 0} (h : X → Option Y) (xs : List X) (i : ℕ) (x : X) → i < length xs → x ≡ get_or xs i x →
    filter_map h xs ≡ (filter_map h (take i xs) ++ filter_map h (x ∷ [])) ++ filter_map h (drop (i + 1) xs)
filter_split h xs i x less is = ap (filter_map h) (split_at xs i x less is) ∙ filter_map-append h (take i xs ++ x ∷ []) (drop (i + 1) xs)
    ∙ ap (λ l. l ++ filter_map h (drop (i + 1) xs)) (filter_map-append h (take i xs) (x ∷ []))

-- the first i + 1 items, filtered, are the first i filtered and then the item at i filtered alone
pub filter_more : {X Y : Type 0} (h : X → Option Y) (xs : List X) (i : ℕ) (x : X) → i < length xs → x ≡ get_or xs i x →
    filter_map h (take (i + 1) xs) ≡ filter_map h (take i xs) ++ filter_map h (x ∷ [])
filter_more h xs i x less is = ap (filter_map h) (one_more xs i x less is) ∙ filter_map-append h (take i xs) (x ∷ [])

-- a flattened list is that of the items before i, then the list that the item at i maps to, then that of the items after it
pub flat_split : {X Y : Type 0} (h : X → List Y) (xs : List X) (i : ℕ) (x : X) → i < length xs → x ≡ get_or xs i x →
    flat_map h xs ≡ (flat_map h (take i xs) ++ h x) ++ flat_map h (drop (i + 1) xs)
flat_split h xs i x less is = ap (flat_map h) (split_at xs i x less is) ∙ flat_map-append h (take i xs ++ x ∷ []) (drop (i + 1) xs)
    ∙ ap (λ l. l ++ flat_map h (drop (i + 1) xs)) (flat_map-append h (take i xs) (x ∷ []) ∙ ap (λ l. flat_map h (take i xs) ++ l) (append-nil (h x)))

-- the first i + 1 items, flattened, are the first i flattened and then the list that the item at i maps to
pub flat_more : {X Y : Type 0} (h : X → List Y) (xs : List X) (i : ℕ) (x : X) → i < length xs → x ≡ get_or xs i x →
    flat_map h (take (i + 1) xs) ≡ flat_map h (take i xs) ++ h x
flat_more h xs i x less is = ap (flat_map h) (one_more xs i x less is) ∙ flat_map-append h (take i xs) (x ∷ [])
    ∙ ap (λ l. flat_map h (take i xs) ++ l) (append-nil (h x))

-- numbers in turn are the first i numbers, and the numbers after them
numbers_append : (n i k : ℕ) → numbers_from n (i + k) ≡ numbers_from n i ++ numbers_from (n + i) k
numbers_append n zero k = let e : 0 + k ≡ k = omega arith in let o : n + 0 ≡ n = omega arith in rw (e, o) refl
numbers_append n (suc i) k =
    let e : suc i + k ≡ suc (i + k) = omega arith in
    let o : n + suc i ≡ (n + 1) + i = omega arith in
    rw (e, o) (ap (λ l. n ∷ l) (numbers_append (n + 1) i k))

-- a list flattened over parts is that of the first items, then the list of the next item, then that of the items after it
pub flat_parts : {X Y : Type 0} (h : X → List Y) (all xs ys : List X) (x : X) → xs ++ x ∷ ys ≡ all → flat_map h all ≡ (flat_map h xs ++ h x) ++ flat_map h ys
flat_parts h all xs ys x e = ap (flat_map h) (sym e) ∙ flat_map-append h xs (x ∷ ys) ∙ sym (append_assoc (flat_map h xs) (h x) (flat_map h ys))

-- a list flattened over one more item is that of the items before, then the list of the item
pub flat_next : {X Y : Type 0} (h : X → List Y) (xs : List X) (x : X) → flat_map h (xs ++ x ∷ []) ≡ flat_map h xs ++ h x
flat_next h xs x = flat_map-append h xs (x ∷ []) ∙ ap (λ l. flat_map h xs ++ l) (append-nil (h x))

-- a list flattened over a range is that of the first i numbers, then the list of the next one, then that of the numbers after it
pub numbers_split : {Y : Type 0} (h : ℕ → List Y) (n k i : ℕ) → i < k → flat_map h (numbers_from n k) ≡ (flat_map h (numbers_from n i) ++ h (n + i))
    ++ flat_map h (numbers_from (n + i + 1) (k - i - 1))
numbers_split h n k i less =
    let e : k ≡ i + suc (k - i - 1) = omega arith in
    let parts : numbers_from n k ≡ numbers_from n i ++ (n + i) ∷ numbers_from (n + i + 1) (k - i - 1) = ap (numbers_from n) e
    ∙ numbers_append n i (suc (k - i - 1)) in
    ap (flat_map h) parts ∙ flat_map-append h (numbers_from n i) ((n + i) ∷ numbers_from (n + i + 1) (k - i - 1))
    ∙ sym (append_assoc (flat_map h (numbers_from n i)) (h (n + i)) (flat_map h (numbers_from (n + i + 1) (k - i - 1))))

-- a list flattened over i + 1 numbers is that of the first i and then the list of the last one
pub numbers_more : {Y : Type 0} (h : ℕ → List Y) (n i : ℕ) → flat_map h (numbers_from n (i + 1)) ≡ flat_map h (numbers_from n i) ++ h (n + i)
numbers_more h n i = ap (flat_map h) (numbers_append n i 1) ∙ flat_map-append h (numbers_from n i) ((n + i) ∷ [])
    ∙ ap (λ l. flat_map h (numbers_from n i) ++ l) (append-nil (h (n + i)))

-- the first of a part that fails is the first of the whole, where what comes before the part passes
pub first_of_part : {X : Type 0} (P : X → Type 0) (whole xs ys zs : List X) (x : X) → whole ≡ (xs ++ ys) ++ zs → All P xs → IsFirstIn P ys x →
    IsFirstIn P whole x
first_of_part P whole xs ys zs x e before h = subst (λ l. IsFirstIn P l x) (sym e) (
  length xs + h.0,
  (
    omega (arith, h.1.0, length-append xs ys, length-append (xs ++ ys) zs),
    λ p. h.1.1 (subst P (in_part h.0 h.1.0) p),
    λ j low. elim (cases_lt j (length xs)) [
      | inl less ↦ subst P (sym (get_or_append_left (xs ++ ys) zs x j (omega (arith, less, length-append xs ys)) ∙ get_or_append_left xs ys x j less))
          (before j x less)
      | inr more ↦ subst P (sym (ap (λ n. get_or ((xs ++ ys) ++ zs) n x) (omega (arith, more)) ∙ in_part (j - length xs) (omega (arith, more, low, h.1.0))))
          (h.1.2 (j - length xs) (omega (arith, more, low)))
    ],
  ),
  in_part h.0 h.1.0 ∙ h.2,
)
  where
    in_part : (i : ℕ) → i < length ys → get_or ((xs ++ ys) ++ zs) (length xs + i) x ≡ get_or ys i x
    in_part i less = get_or_append_left (xs ++ ys) zs x (length xs + i) (omega (arith, less, length-append xs ys)) ∙ get_or-append-add xs ys i x

-- all of a list was read
pub map_taken : {X Y : Type 0} (h : X → Y) (xs : List X) (i : ℕ) → length xs ≤ i → map h xs ≡ map h (take i xs)
map_taken h xs i less = ap (map h) (sym (take_all i xs less))

-- a filtered list is that of the first i items if there are no more
pub filter_taken : {X Y : Type 0} (h : X → Option Y) (xs : List X) (i : ℕ) → length xs ≤ i → filter_map h xs ≡ filter_map h (take i xs)
filter_taken h xs i less = ap (filter_map h) (sym (take_all i xs less))

-- a flattened list is that of the first i items if there are no more
pub flat_taken : {X Y : Type 0} (h : X → List Y) (xs : List X) (i : ℕ) → length xs ≤ i → flat_map h xs ≡ flat_map h (take i xs)
flat_taken h xs i less = ap (flat_map h) (sym (take_all i xs less))

-- a place of a list that is read in turn
pub first_here : {X : Type 0} (P : X → Type 0) (xs : List X) (i : ℕ) (x : X) → i < length xs → x ≡ get_or xs i x → All P (take i xs) → (P x → ⊥) →
    IsFirstIn P xs x
first_here P xs i x less is before fails = (
  i,
  (
    less,
    λ p. fails (subst P (sym is) p),
    λ j low. subst P (get_or-take i xs j x low) (before j x (omega (arith, low, less, length-take-le i xs (omega (arith, less))))),
  ),
  sym is,
)

-- what holds of the first i items, and of the item at i, holds of the first i + 1
pub all_more : {X : Type 0} (P : X → Type 0) (xs : List X) (i : ℕ) (x : X) → i < length xs → x ≡ get_or xs i x → All P (take i xs) → P x →
    All P (take (i + 1) xs)
all_more P xs i x less is before here = All-same P (take (i + 1) xs) (take i xs ++ x ∷ []) (one_more xs i x less is) (All-push P (take i xs) x before here)

-- what holds of the first i items holds of all if there are no more
pub all_taken : {X : Type 0} (P : X → Type 0) (xs : List X) (i : ℕ) → length xs ≤ i → All P (take i xs) → All P xs
all_taken P xs i less h = All-same P xs (take i xs) (sym (take_all i xs less)) h

-- a fact of each item of the parts is one of each part's items
pub all_of_part : {X Y : Type 0} (P : Y → Type 0) (h : X → List Y) (xs : List X) (i : ℕ) (x : X) → i < length xs → x ≡ get_or xs i x → All P (flat_map h xs) →
    All P (h x)
all_of_part P h xs i x less is all =
    let parts : All P ((flat_map h (take i xs) ++ h x) ++ flat_map h (drop (i + 1) xs)) = All-same P
    ((flat_map h (take i xs) ++ h x) ++ flat_map h (drop (i + 1) xs)) (flat_map h xs) (sym (flat_split h xs i x less is)) all in
    all_right P (flat_map h (take i xs)) (h x) (all_left P (flat_map h (take i xs) ++ h x) (flat_map h (drop (i + 1) xs)) parts)
  where
    all_left : {X : Type 0} (P : X → Type 0) (xs ys : List X) → All P (xs ++ ys) → All P xs
    all_left P [] ys all = All-nil P
    all_left P (x ∷ xs) ys all = All-cons P x xs (All-head P x (xs ++ ys) all) (all_left P xs ys (All-tail P x (xs ++ ys) all))

    all_right : {X : Type 0} (P : X → Type 0) (xs ys : List X) → All P (xs ++ ys) → All P ys
    all_right P [] ys all = all
    all_right P (x ∷ xs) ys all = all_right P xs ys (All-tail P x (xs ++ ys) all)

-- a list with a first that fails doesn't pass
pub first_not_all : {X : Type 0} (P : X → Type 0) (xs : List X) (x : X) → IsFirstIn P xs x → All P xs → ⊥
first_not_all P xs x h all = h.1.1 (all h.0 x h.1.0)
