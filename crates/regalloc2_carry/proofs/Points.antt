-- Moves by their points: pushing one in front, and a block's listing put together from them.
use Rattle.std.proofs.Common.{ℕ, zero, suc, ◌≡◌, ◌+◌, ◌-◌, ◌*◌, ◌<◌, ◌≤◌, Bool, true, false, cond, List, [], ◌∷◌, ◌++◌, length, map, nat_eq, refl, arith, ap}
use Rattle.std.proofs.Common.{◌∙◌, inl, inr, eq-eqb}
use Rattle.std.specs.Prelude.{◌||◌, ◌&&◌, nat_lt, filter, slice_index_or}
use Rattle.std.specs.List.Sorted.{IsNonDecreasingBy}
use Rattle.std.proofs.lemmas.Bool.{cases_eq, ne_eqb}
use Rattle.std.proofs.lemmas.List.Elements.{filter_agree}
use Rattle.regalloc2_names.specs.Place.{Place, before, after}
use Rattle.regalloc2_function.specs.FunctionValue.{FunctionValue, InstValue, block_at, inst_at}
use Rattle.regalloc2_function.specs.Listing.{moves_before}
use Rattle.regalloc2_function.specs.OutputValue.{OutputValue, MoveValue, allocs_of, is_listed_at}
use Rattle.regalloc2_carry.specs.Listing.{Item, exec_item, with_moves, items_by, items_from, block_items}
use Rattle.regalloc2_carry.specs.Listing.Item.{Move}
use Rattle.regalloc2_carry.specs.BlockByPoints.{at_point, walked, block_walked, AllFrom, Rising, EndsQuiet}

-- a move in front
pub at_point-here : (q : ℕ) (m : MoveValue) (es : List (ℕ × MoveValue)) → at_point ((q, m) ∷ es) q ≡ m ∷ at_point es q
at_point-here q m es = rw (eq-eqb q q refl) refl

-- a move at another point, in front, leaves the moves at this one
pub at_point-other : (p q : ℕ) (m : MoveValue) (es : List (ℕ × MoveValue)) → (p ≡ q → ⊥) → at_point ((p, m) ∷ es) q ≡ at_point es q
at_point-other p q m es h = rw (ne_eqb p q h) refl

-- edits whose points are all at least n have points that are all at least any m up to n
pub all_from-less : (m n : ℕ) (es : List (ℕ × MoveValue)) → m ≤ n → AllFrom n es → AllFrom m es
unfolding AllFrom
all_from-less m n [] le h = tt
all_from-less m n (e ∷ es) le h = (omega (arith, h.0), all_from-less m n es le h.1)

-- no move is at a point below all
none_at : (q : ℕ) (es : List (ℕ × MoveValue)) → AllFrom (suc q) es → filter (λ e. nat_eq e.0 q) es ≡ []
unfolding AllFrom
none_at q [] h = refl
none_at q (e ∷ es) h = rw (ne_eqb e.0 q (λ s. omega (arith, h.0))) (none_at q es h.1)

-- there are no moves at a point below the points of all edits
pub at_point-none : (q : ℕ) (es : List (ℕ × MoveValue)) → AllFrom (suc q) es → at_point es q ≡ []
at_point-none q es h = ap (map (λ e. e.1)) (none_at q es h)

-- the tests on one point
listed_first : (first i p : ℕ) → p ≡ after i → first ≤ i → is_listed_at first (i + 1) p ≡ true
listed_first first i p e le = rw (ne_eqb p (2 * (i + 1)) (λ s. omega arith), eq-eqb (p + 1) (2 * (i + 1)) (omega arith), lower first (i + 1) (omega arith)) refl
  where
    lower : (m n : ℕ) → m < n → nat_lt m n ≡ true
    lower m n h = grind (arith)

listed_second : (first i p : ℕ) → p ≡ before (i + 1) → is_listed_at first (i + 1) p ≡ true
listed_second first i p e = rw (eq-eqb p (2 * (i + 1)) e) refl

listed_not : (first i p : ℕ) → (p ≡ after i → ⊥) → (p ≡ before (i + 1) → ⊥) → is_listed_at first (i + 1) p ≡ false
listed_not first i p a b = rw (ne_eqb p (2 * (i + 1)) b, ne_eqb (p + 1) (2 * (i + 1)) (λ s. a (omega arith))) (both (nat_lt first (i + 1)))
  where
    both : (x : Bool) → (x && false) ≡ false
    both true = refl
    both false = refl

-- one move that is listed at one of two points, or at neither
by_first : (l a b : Bool) (e : ℕ × MoveValue) (xs ys zs : List (ℕ × MoveValue)) → l ≡ true → a ≡ true → b ≡ false →
    map (λ d. d.1) xs ≡ map (λ d. d.1) ys ++ map (λ d. d.1) zs → map (λ d. d.1) (cond l (e ∷ xs) xs) ≡ map (λ d. d.1) (cond a (e ∷ ys) ys)
    ++ map (λ d. d.1) (cond b (e ∷ zs) zs)
by_first l a b e xs ys zs p q r h = rw (p, q, r) (ap (λ ms. e.1 ∷ ms) h)

by_second : (l a b : Bool) (e : ℕ × MoveValue) (xs ys zs : List (ℕ × MoveValue)) → l ≡ true → a ≡ false → b ≡ true → ys ≡ [] →
    map (λ d. d.1) xs ≡ map (λ d. d.1) ys ++ map (λ d. d.1) zs → map (λ d. d.1) (cond l (e ∷ xs) xs) ≡ map (λ d. d.1) (cond a (e ∷ ys) ys)
    ++ map (λ d. d.1) (cond b (e ∷ zs) zs)
by_second l a b e xs ys zs p q r n h = rw (p, q, r, n) (ap (λ ms. e.1 ∷ ms) (rw n at h))

by_none : (l a b : Bool) (e : ℕ × MoveValue) (xs ys zs : List (ℕ × MoveValue)) → l ≡ false → a ≡ false → b ≡ false →
    map (λ d. d.1) xs ≡ map (λ d. d.1) ys ++ map (λ d. d.1) zs → map (λ d. d.1) (cond l (e ∷ xs) xs) ≡ map (λ d. d.1) (cond a (e ∷ ys) ys)
    ++ map (λ d. d.1) (cond b (e ∷ zs) zs)
by_none l a b e xs ys zs p q r h = rw (p, q, r) h

-- what is before an instruction that is not the block's first: the moves after the previous instruction, and then the
-- moves before it
split : (first i : ℕ) (es : List (ℕ × MoveValue)) → first ≤ i → Rising es →
    map (λ e. e.1) (filter (λ e. is_listed_at first (i + 1) e.0) es) ≡ at_point es (after i) ++ at_point es (before (i + 1))
unfolding Rising
split first i [] le r = refl
split first i (e ∷ es) le r =
    let next : after i + 1 ≡ before (i + 1) = omega arith in
    elim (cases_eq e.0 (after i)) [
      | inl a ↦ by_first _ _ _ e _ _ _ (listed_first first i e.0 a le) (eq-eqb e.0 (after i) a) (ne_eqb e.0 (before (i + 1)) (λ s. omega arith))
          (split first i es le r.1)
      | inr a ↦ elim (cases_eq e.0 (before (i + 1))) [
        | inl b ↦ by_second _ _ _ e _ _ _ (listed_second first i e.0 b) (ne_eqb e.0 (after i) a) (eq-eqb e.0 (before (i + 1)) b)
            (none_at (after i) es (all_from-less (suc (after i)) e.0 es (omega arith) r.0)) (split first i es le r.1)
        | inr b ↦ by_none _ _ _ e _ _ _ (listed_not first i e.0 a b) (ne_eqb e.0 (after i) a) (ne_eqb e.0 (before (i + 1)) b) (split first i es le r.1)
      ]
    ]

-- with edits in order, the moves before a later instruction of a block are the moves after the previous instruction,
-- then its own
pub moves_before-later : (o : OutputValue) (first i : ℕ) → first ≤ i → Rising o.edits → moves_before o first (i + 1) ≡ at_point o.edits (after i)
    ++ at_point o.edits (before (i + 1))
moves_before-later o first i le r = split first i o.edits le r

-- before the block's first instruction only the moves before it are listed
pub moves_before-first : (o : OutputValue) (i : ℕ) → moves_before o i i ≡ at_point o.edits (before i)
moves_before-first o i = each o.edits
  where
    never : nat_lt i i ≡ false
    never = grind (arith)

    same : (p : ℕ) → is_listed_at i i p ≡ nat_eq p (before i)
    same p = rw never (or_false (nat_eq p (before i)))
      where
        or_false : (b : Bool) → (b || false) ≡ b
        or_false true = refl
        or_false false = refl

    each : (es : List (ℕ × MoveValue)) → map (λ e. e.1) (filter (λ e. is_listed_at i i e.0) es) ≡ at_point es (before i)
    each es = ap (map (λ e. e.1)) (filter_agree (λ e. is_listed_at i i e.0) (λ e. nat_eq e.0 (before i)) (λ e. same e.0) es)

-- to prepend two joined lists of moves is to prepend the second, and then the first
pub with_moves-append : (ms ns : List MoveValue) (L : List Item) → with_moves (ms ++ ns) L ≡ with_moves ms (with_moves ns L)
unfolding with_moves
with_moves-append [] ns L = refl
with_moves-append (m ∷ ms) ns L = ap (λ l. Move m ∷ l) (with_moves-append ms ns L)

no_moves : (ms : List MoveValue) → ms ≡ [] → [] ≡ with_moves ms []
unfolding with_moves
no_moves [] h = refl
no_moves (m ∷ ms) h = absurd cc

-- from the second instruction on
later : (f : FunctionValue) (o : OutputValue) (first : ℕ) → Rising o.edits → (i count : ℕ) → first ≤ i → at_point o.edits (after (i + count)) ≡ [] →
    items_from f o first (i + 1) count ≡ with_moves (at_point o.edits (after i)) (walked (inst_at f) (at_point o.edits) (allocs_of o) (i + 1) count)
unfolding items_by walked
later f o first r i zero le quiet = let e : i + 0 ≡ i = omega arith in no_moves (at_point o.edits (after i)) (rw e at quiet)
later f o first r i (suc count) le quiet =
    let e : i + suc count ≡ i + 1 + count = omega arith in
    let rest : items_from f o first (i + 1 + 1) count ≡ with_moves (at_point o.edits (after (i + 1)))
    (walked (inst_at f) (at_point o.edits) (allocs_of o) (i + 1 + 1) count) = later f o first r (i + 1) count (omega arith) (rw e at quiet) in
    ap (λ ms. with_moves ms (exec_item (inst_at f (i + 1)) (allocs_of o (i + 1)) ∷ items_from f o first (i + 1 + 1) count)) (moves_before-later o first i le r)
    ∙ with_moves-append (at_point o.edits (after i)) (at_point o.edits (before (i + 1))) _
    ∙ ap (λ l. with_moves (at_point o.edits (after i)) (with_moves (at_point o.edits (before (i + 1)))
    (exec_item (inst_at f (i + 1)) (allocs_of o (i + 1)) ∷ l))) rest

-- a block's listing is the one built from program points
counted : (f : FunctionValue) (o : OutputValue) (first n : ℕ) → Rising o.edits → at_point o.edits (after (first + n)) ≡ [] →
    items_from f o first first (suc n) ≡ walked (inst_at f) (at_point o.edits) (allocs_of o) first (suc n)
unfolding items_by walked
counted f o first n r quiet =
    ap (λ ms. with_moves ms (exec_item (inst_at f first) (allocs_of o first) ∷ items_from f o first (first + 1) n)) (moves_before-first o first)
    ∙ ap (λ l. with_moves (at_point o.edits (before first)) (exec_item (inst_at f first) (allocs_of o first) ∷ l))
    (later f o first r first n (omega arith) quiet)

-- with edits in order and none after its last instruction, a nonempty block's listing is the one put together by points
pub block_items-walked : (f : FunctionValue) (o : OutputValue) (b : ℕ) → Rising o.edits → (block_at f b).range.first < (block_at f b).range.end →
    EndsQuiet f o b → block_items f o b ≡ block_walked f o b
block_items-walked f o b r nonempty quiet =
    let first : ℕ = (block_at f b).range.first in
    let n : ℕ = (block_at f b).range.end - first - 1 in
    let e : (block_at f b).range.end - first ≡ suc n = omega arith in
    let last : (block_at f b).range.end - 1 ≡ first + n = omega arith in
    rw e (counted f o first n r (rw last at quiet))

-- edits whose points, by index, are all at least n
pub all_from : (n : ℕ) (es : List (ℕ × MoveValue)) → ((k : ℕ) (d : ℕ × MoveValue) → k < length es → n ≤ (slice_index_or es k d).0) → AllFrom n es
unfolding AllFrom
all_from n [] h = tt
all_from n (e ∷ es) h = (h 0 e (omega arith), all_from n es (λ k d lt. h (suc k) d (omega arith)))

-- edits sorted by their points, as `IsNonDecreasingBy` states it for indices, have points that never fall
pub rising_by : (es : List (ℕ × MoveValue)) → IsNonDecreasingBy (λ e. e.0) es → Rising es
unfolding Rising
rising_by [] h = tt
rising_by (e ∷ es) h = (
  all_from e.0 es (λ k d lt. h 0 (suc k) d (omega arith) (omega arith)),
  rising_by es (λ j k d le lt. h (suc j) (suc k) d (omega arith) (omega arith)),
)

-- a listing by points depends on its own points and instructions alone
pub walked-same : (insts : ℕ → InstValue) (at to : ℕ → List MoveValue) (places others : ℕ → List Place) (i count : ℕ) →
    ((q : ℕ) → before i ≤ q → q < before (i + count) → at q ≡ to q) → ((j : ℕ) → i ≤ j → j < i + count → places j ≡ others j) →
    walked insts at places i count ≡ walked insts to others i count
unfolding walked
walked-same insts at to places others i zero h g = refl
walked-same insts at to places others i (suc count) h g =
    let rest : walked insts at places (i + 1) count ≡ walked insts to others (i + 1) count = walked-same insts at to places others (i + 1) count
    (λ q le lt. h q (omega arith) (omega arith)) (λ j le lt. g j (omega arith) (omega arith)) in
    rw (h (before i) (omega arith) (omega arith), h (after i) (omega arith) (omega arith), g i (omega arith) (omega arith), rest) refl
