-- What an iterator over a listing gives is the listing that the definitions have.
use Rattle.std.proofs.Common.{◌≡◌, ℕ, zero, suc, ◌+◌, ◌-◌, ◌<◌, ◌≤◌, Bool, List, [], ◌∷◌, length, get_or, true, false, refl, sym, ap, ◌∙◌, map, take, drop}
use Rattle.std.proofs.Common.{arith}
use Rattle.std.specs.Prelude.{nat_le, nat_lt, filter, All}
use Rattle.std.specs.List.Sorted.{IsNonDecreasingBy, IsPartitionPoint}
use Rattle.std.proofs.lemmas.Bool.Decides.{nat_tests}
use Rattle.std.proofs.lemmas.List.{length-map, length-drop, drop-map, take_all}
use Rattle.std.proofs.lemmas.List.Elements.{All-append, All-map, All-nil, All-cons}
use Rattle.regalloc2_names.specs.Place.{before}
use Rattle.regalloc2_function.specs.declared.listing.Edit.{Edit}
use Rattle.regalloc2_function.specs.Views.{edit_of}
use Rattle.regalloc2_function.specs.OutputValue.{OutputValue, MoveValue, is_listed_at}
use Rattle.regalloc2_function.specs.Listing.{Listed, ListedInst, ListedMove, IsListedWithin, listing_from, listing_left, moves_before}

-- an output with other edits
abbrev with_edits : OutputValue → List (ℕ × MoveValue) → OutputValue
with_edits o es = record o { edits = es }

-- edits whose points never fall and begin at low
abbrev Rises : ℕ → List (ℕ × MoveValue) → Type 0
Rises low [] = Unit {0}
Rises low (e ∷ es) = (low ≤ e.0) × Rises e.0 es

not_listed_above : (first i point : ℕ) → before i < point → is_listed_at first i point ≡ false
not_listed_above first i point h = grind (arith, nat_tests)

not_listed_below : (first i point : ℕ) → point < before i → (first < i → point + 1 < before i) → is_listed_at first i point ≡ false
not_listed_below first i point h g = grind (arith, nat_tests)

listed_here : (first i point : ℕ) → point ≤ before i → first ≤ i → (first ≡ i → before i ≤ point) → before i ≤ point + 1 → is_listed_at first i point ≡ true
listed_here first i point h f g k = grind (arith, nat_tests)

-- an edit that was passed changes nothing
skip_one : (o : OutputValue) (e : ℕ × MoveValue) (es : List (ℕ × MoveValue)) (first i n : ℕ) → first ≤ i → e.0 < before i → (first < i → e.0 + 1 < before i)
    → listing_from (with_edits o (e ∷ es)) first i n ≡ listing_from (with_edits o es) first i n
unfolding listing_from
skip_one o e es first i zero f h g = refl
skip_one o e es first i (suc n) f h g =
    let t : is_listed_at first i e.0 ≡ false = not_listed_below first i e.0 h g in
    let r : listing_from (with_edits o (e ∷ es)) first (i + 1) n ≡ listing_from (with_edits o es) first (i + 1) n =
    skip_one o e es first (i + 1) n (omega arith) (omega arith) (λ w. omega arith) in
    rw (t, r) refl

skip_all : (o : OutputValue) (k : ℕ) (es : List (ℕ × MoveValue)) (first n : ℕ) → k ≤ length es →
    ((j : ℕ) (d : ℕ × MoveValue) → j < k → (get_or es j d).0 < before first)
    → listing_from (with_edits o es) first first n ≡ listing_from (with_edits o (drop k es)) first first n
skip_all o zero es first n l h = refl
skip_all o (suc k) [] first n l h = absurd (omega arith)
skip_all o (suc k) (e ∷ es) first n l h =
    skip_one o e es first first n (omega arith) (h 0 e (omega arith)) (λ w. absurd (omega arith))
    ∙ skip_all o k es first n (omega arith) (λ j d w. h (suc j) d (omega arith))

none_listed : (first i low : ℕ) (es : List (ℕ × MoveValue)) → before i < low → Rises low es → filter (λ e. is_listed_at first i e.0) es ≡ []
none_listed first i low [] h r = refl
none_listed first i low (e ∷ es) h r =
    let t : is_listed_at first i e.0 ≡ false = not_listed_above first i e.0 (omega arith) in
    rw t (none_listed first i e.0 es (omega arith) r.1)

left_is : (o : OutputValue) (first : ℕ) (es : List (ℕ × MoveValue)) (i n low : ℕ) → first ≤ i → (first ≡ i → before i ≤ low) → before i ≤ low + 1 → Rises low es
    → listing_left es i n ≡ listing_from (with_edits o es) first i n
unfolding listing_left listing_from
left_is o first [] i zero low f a b r = refl
left_is o first [] i (suc n) low f a b r =
    ap (λ (l : List Listed). ListedInst i ∷ l) (left_is o first [] (i + 1) n (before (i + 1)) (omega arith) (λ w. omega arith) (omega arith) tt)
left_is o first (e ∷ es) i zero low f a b r = refl
left_is o first (e ∷ es) i (suc n) low f a b r =
    elim (nat_le e.0 (before i)) as (λ t. nat_le e.0 (before i) ≡ t → listing_left (e ∷ es) i (suc n) ≡ listing_from (with_edits o (e ∷ es)) first i (suc n)) [
      | true ↦ λ t.
          let le : e.0 ≤ before i = grind (arith, nat_tests) in
          let here : is_listed_at first i e.0 ≡ true = listed_here first i e.0 le f (λ w. omega (arith, a w)) (omega (arith, r.0)) in
          let later : listing_from (with_edits o (e ∷ es)) first (i + 1) n ≡ listing_from (with_edits o es) first (i + 1) n = skip_one o e es first (i + 1) n
          (omega arith) (omega arith) (λ w. omega arith) in
          let rest : listing_left es i (suc n) ≡ listing_from (with_edits o es) first i (suc n) = left_is o first es i (suc n) e.0 f
          (λ w. omega (arith, a w, r.0)) (omega (arith, r.0)) r.1 in
          rw (t, here, later, rest) refl
      | false ↦ λ t.
          let lt : before i < e.0 = grind (arith, nat_tests) in
          let none : filter (λ e. is_listed_at first i e.0) (e ∷ es) ≡ [] = none_listed first i e.0 (e ∷ es) lt (omega arith, r.1) in
          let rest : listing_left (e ∷ es) (i + 1) n ≡ listing_from (with_edits o (e ∷ es)) first (i + 1) n = left_is o first (e ∷ es) (i + 1) n e.0
          (omega arith) (λ w. omega arith) (omega arith) (omega arith, r.1) in
          rw (t, none, rest) refl
    ] refl

rises_of : (es : List (ℕ × MoveValue)) (low : ℕ) → IsNonDecreasingBy (λ (e : ℕ × MoveValue). e.0) es →
    ((d : ℕ × MoveValue) → 0 < length es → low ≤ (get_or es 0 d).0) → Rises low es
rises_of [] low h l = tt
rises_of (e ∷ es) low h l =
    (l e (omega arith), rises_of es e.0 (λ i j d a b. h (suc i) (suc j) d (omega arith) (omega arith)) (λ d a. h 0 1 d (omega arith) (omega arith)))

drop_at : (es : List (ℕ × MoveValue)) (k : ℕ) → Rises 0 [] → ((d : ℕ × MoveValue) → 0 < length (drop k es) → (k < length es)
    × (get_or (drop k es) 0 d ≡ get_or es k d))
drop_at es zero u d h = (h, refl)
drop_at [] (suc k) u d h = absurd (omega arith)
drop_at (e ∷ es) (suc k) u d h = let r = drop_at es k u d h in (omega arith, r.1)

rises_after : (es : List (ℕ × MoveValue)) (k : ℕ) → IsNonDecreasingBy (λ (e : ℕ × MoveValue). e.0) es →
    IsNonDecreasingBy (λ (e : ℕ × MoveValue). e.0) (drop k es)
rises_after es zero h = h
rises_after [] (suc k) h = h
rises_after (e ∷ es) (suc k) h = rises_after es k (λ i j d a b. h (suc i) (suc j) d (omega arith) (omega arith))

-- where all edits up to k come before the block, and none after it, the edits from k on give its listing
pub listing_is : (o : OutputValue) (first n k : ℕ) → IsNonDecreasingBy (λ (e : ℕ × MoveValue). e.0) o.edits → k ≤ length o.edits
    → ((j : ℕ) (d : ℕ × MoveValue) → j < k → (get_or o.edits j d).0 < before first)
    → ((j : ℕ) (d : ℕ × MoveValue) → k ≤ j → j < length o.edits → before first ≤ (get_or o.edits j d).0)
    → listing_left (drop k o.edits) first n ≡ listing_from o first first n
listing_is o first n k sorted l below above =
    let rest : Rises (before first) (drop k o.edits) =
    rises_of (drop k o.edits) (before first) (rises_after o.edits k sorted)
    (λ d h. let at : (k < length o.edits) × (get_or (drop k o.edits) 0 d ≡ get_or o.edits k d) = drop_at o.edits k tt d h in
    rw at.1 (above k d (omega arith) at.0)) in
    left_is o first (drop k o.edits) first n (before first) (omega arith) (λ w. omega arith) (omega arith) rest ∙ sym (skip_all o k o.edits first n l below)

-- edits as they are stored have the points of the edits that contracts see

at_map : (items : List (ℕ × Edit)) (j : ℕ) (d : ℕ × Edit) → (get_or (map edit_of items) j (edit_of d)).0 ≡ (get_or items j d).0
at_map [] j d = refl
at_map (x ∷ xs) zero d = refl
at_map (x ∷ xs) (suc j) d = at_map xs j d

-- edits that are in order by the specs' points are in order as they are stored
pub sorted_items : (items : List (ℕ × Edit)) → IsNonDecreasingBy (λ (e : ℕ × MoveValue). e.0) (map edit_of items) →
    IsNonDecreasingBy (λ (e : ℕ × Edit). e.0) items
sorted_items items h = λ i j d a b.
    let l : length (map edit_of items) ≡ length items = length-map items edit_of in
    let r = h i j (edit_of d) a (omega arith) in
    let x = at_map items i d in
    let y = at_map items j d in
    omega arith

at_item : (items : List (ℕ × Edit)) (j : ℕ) (d : ℕ × MoveValue) → j < length items → (b : Bool) (t : ℕ) → ((e : ℕ × Edit) → nat_lt (get_or items j e).0 t ≡ b) →
    nat_lt (get_or (map edit_of items) j d).0 t ≡ b
at_item [] j d h b t f = absurd (omega arith)
at_item (x ∷ xs) zero d h b t f = f x
at_item (x ∷ xs) (suc j) d h b t f = at_item xs j d (omega arith) b t f

-- the edits from a block's first point on, which a partition of the stored ones finds, give the block's listing
pub listing_of_items : (o : OutputValue) (items : List (ℕ × Edit)) (first n k t : ℕ) → o.edits ≡ map edit_of items →
    IsNonDecreasingBy (λ (e : ℕ × MoveValue). e.0) o.edits → t ≡ before first → k ≤ length items
    → IsPartitionPoint (λ e. nat_lt e.0 t ≡ true) (λ e. nat_lt e.0 t ≡ false) items k
    → listing_left (map edit_of (take (length items - k) (drop k items))) first n ≡ listing_from o first first n
listing_of_items o items first n k t e sorted s l point =
    let len : length o.edits ≡ length items = rw e (length-map items edit_of) in
    let all : take (length items - k) (drop k items) ≡ drop k items = take_all (length items - k) (drop k items) (simp length-drop (omega arith)) in
    let below : (j : ℕ) (d : ℕ × MoveValue) → j < k → (get_or o.edits j d).0 < before first = λ j d w.
    let r : nat_lt (get_or (map edit_of items) j d).0 t ≡ true = at_item items j d (omega arith) true t (λ d'. point.0 j d' (omega arith) w) in
    rw e (grind (arith, nat_tests)) in
    let above : (j : ℕ) (d : ℕ × MoveValue) → k ≤ j → j < length o.edits → before first ≤ (get_or o.edits j d).0 = λ j d w x.
    let r : nat_lt (get_or (map edit_of items) j d).0 t ≡ false = at_item items j d (omega arith) false t (λ d'. point.1 j d' w (omega arith)) in
    rw e (grind (arith, nat_tests)) in
    let whole : listing_left (drop k o.edits) first n ≡ listing_from o first first n = listing_is o first n k sorted (omega arith) below above in
    rw (all, ← drop-map edit_of k items, ← e) whole

moves_within : (first end : ℕ) (ms : List MoveValue) → All (λ m. IsListedWithin first end (ListedMove m)) ms
moves_within first end [] = All-nil _
moves_within first end (m ∷ ms) = All-cons (λ x. IsListedWithin first end (ListedMove x)) m ms tt (moves_within first end ms)

-- a listing of n instructions from i on has no other instructions
pub listed_within : (o : OutputValue) (first end begin i n : ℕ) → first ≤ i → i + n ≤ end → All (IsListedWithin first end) (listing_from o begin i n)
unfolding listing_from
listed_within o first end begin i zero f e = All-nil _
listed_within o first end begin i (suc n) f e =
    let moves = moves_before o begin i in
    All-append (IsListedWithin first end) (map (λ m. ListedMove m) moves) (ListedInst i ∷ listing_from o begin (i + 1) n)
    (All-map (IsListedWithin first end) (λ m. ListedMove m) moves (moves_within first end moves))
    (All-cons (IsListedWithin first end) (ListedInst i) (listing_from o begin (i + 1) n) (f, omega arith)
    (listed_within o first end begin (i + 1) n (omega arith) (omega arith)))
