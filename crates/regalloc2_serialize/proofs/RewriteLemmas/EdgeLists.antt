-- Where each critical edge is in the list of them.
use Rattle.std.proofs.Common.{◌≡◌, ◌∙◌, ℕ, zero, suc, ◌+◌, ◌-◌, ◌<◌, ◌≤◌, Bool, true, false, cond, List, [], ◌∷◌, ◌++◌, length, get_or, refl, sym, ap, subst, arith}
use Rattle.std.specs.Prelude.{count_by, nat_lt, sum_by}
use Rattle.std.specs.List.{range_with_len}
use Rattle.std.proofs.lemmas.Bool.Decides.{nat_tests}
use Rattle.std.proofs.lemmas.List.{get_or-append-add, get_or_append_left, length-append, map-id}
use Rattle.std.proofs.lemmas.List.FromFn.{map-range_with_len_more}
use Rattle.std.proofs.lemmas.List.Sums.{sum_by_push}
use Rattle.regalloc2_function.specs.FunctionValue.{FunctionValue, block_at}
use Rattle.regalloc2_serialize.specs.Rewrite.SplitEdges.{Edge, critical_from, critical_in, edges_before, edges_upto, is_critical}

abbrev pub no_edge : Edge
no_edge = record { from = 0; position = 0 }

abbrev pub edge : ℕ → ℕ → Edge
edge b k = record { from = b; position = k }

-- a list has an edge at a position
pub record IsAt (es : List Edge) (i : ℕ) (e : Edge) : Type 0 where
  pub less : i < length es
  pub same : get_or es i no_edge ≡ e

at-left : (xs ys : List Edge) (i : ℕ) (e : Edge) → IsAt xs i e → IsAt (xs ++ ys) i e
at-left xs ys i e h = record {
  less = omega (arith, length-append xs ys, h.less);
  same = get_or_append_left xs ys no_edge i h.less ∙ h.same;
}

at-right : (xs ys : List Edge) (i : ℕ) (e : Edge) → IsAt ys i e → IsAt (xs ++ ys) (length xs + i) e
at-right xs ys i e h = record {
  less = omega (arith, length-append xs ys, h.less);
  same = get_or-append-add xs ys i no_edge ∙ h.same;
}

at-end : (xs : List Edge) (e : Edge) → IsAt (xs ++ e ∷ []) (length xs) e
at-end xs e =
    let back : length xs + 0 ≡ length xs = omega arith in
    subst (λ i. IsAt (xs ++ e ∷ []) i e) back (at-right xs (e ∷ []) 0 e (record { less = omega arith; same = refl }))

upto-step : (f : FunctionValue) (b i n : ℕ) → i < suc n → is_critical f b i ≡ true →
    (i < n → IsAt (edges_upto f b n) (length (edges_upto f b i)) (edge b i)) → IsAt (edges_upto f b (suc n)) (length (edges_upto f b i)) (edge b i)
upto-step f b i n less critical rest = by (nat_lt i n) refl
  where
    here : IsAt (edges_upto f b (suc i)) (length (edges_upto f b i)) (edge b i)
    here = rw critical (at-end (edges_upto f b i) (edge b i))

    by : (c : Bool) → nat_lt i n ≡ c → IsAt (edges_upto f b (suc n)) (length (edges_upto f b i)) (edge b i)
    by true e =
        let lower : i < n = grind (arith, nat_tests) in
        at-left (edges_upto f b n) (cond (is_critical f b n) (edge b n ∷ []) []) (length (edges_upto f b i)) (edge b i) (rest lower)
    by false e =
        let up : n ≤ i = grind (arith, nat_tests) in
        let same : i ≡ n = omega (arith, less, up) in
        subst (λ m. IsAt (edges_upto f b (suc m)) (length (edges_upto f b i)) (edge b i)) same here

pub at-upto : (f : FunctionValue) (b i n : ℕ) → i < n → is_critical f b i ≡ true → IsAt (edges_upto f b n) (length (edges_upto f b i)) (edge b i)
at-upto f b i zero less critical = absurd (omega arith)
at-upto f b i (suc n) less critical = upto-step f b i n less critical (λ lower. at-upto f b i n lower critical)

before-step : (f : FunctionValue) (b i n : ℕ) → b < suc n → i < length (block_at f b).succs → is_critical f b i ≡ true →
    (b < n → IsAt (edges_before f n) (length (edges_before f b ++ edges_upto f b i)) (edge b i)) →
    IsAt (edges_before f (suc n)) (length (edges_before f b ++ edges_upto f b i)) (edge b i)
before-step f b i n less within critical rest = by (nat_lt b n) refl
  where
    at : ℕ
    at = length (edges_before f b ++ edges_upto f b i)

    here : IsAt (edges_before f (suc b)) at (edge b i)
    here =
        let whole : List Edge = edges_upto f b (length (block_at f b).succs) in
        let long : length (edges_before f b) + length (edges_upto f b i) ≡ at = sym (length-append (edges_before f b) (edges_upto f b i)) in
        subst (λ j. IsAt (edges_before f b ++ whole) j (edge b i)) long
        (at-right (edges_before f b) whole (length (edges_upto f b i)) (edge b i) (at-upto f b i (length (block_at f b).succs) within critical))

    by : (c : Bool) → nat_lt b n ≡ c → IsAt (edges_before f (suc n)) at (edge b i)
    by true e =
        let lower : b < n = grind (arith, nat_tests) in
        at-left (edges_before f n) (edges_upto f n (length (block_at f n).succs)) at (edge b i) (rest lower)
    by false e =
        let up : n ≤ b = grind (arith, nat_tests) in
        let same : b ≡ n = omega (arith, less, up) in
        subst (λ m. IsAt (edges_before f (suc m)) at (edge b i)) same here

-- a critical edge is behind the critical edges of the blocks before its own, and behind the ones before it in its own
-- block
pub at-before : (f : FunctionValue) (b i n : ℕ) → b < n → i < length (block_at f b).succs → is_critical f b i ≡ true →
    IsAt (edges_before f n) (length (edges_before f b ++ edges_upto f b i)) (edge b i)
at-before f b i zero less within critical = absurd (omega arith)
at-before f b i (suc n) less within critical = before-step f b i n less within critical (λ lower. at-before f b i n lower within critical)

-- the edge at a position of a block's critical edges
pub record IsEdgeAmong (f : FunctionValue) (b n j : ℕ) : Type 0 where
  pub at : ℕ
  pub less : at < n
  pub critical : is_critical f b at ≡ true
  pub number : length (edges_upto f b at) ≡ j

edge-step : (f : FunctionValue) (b n j : ℕ) → j < length (edges_upto f b (suc n)) → (j < length (edges_upto f b n) → IsEdgeAmong f b n j) → IsEdgeAmong f b (suc n) j
edge-step f b n j less rest = by (nat_lt j (length (edges_upto f b n))) refl
  where
    long : length (edges_upto f b (suc n)) ≡ length (edges_upto f b n) + length (cond (is_critical f b n) (edge b n ∷ []) [])
    long = length-append (edges_upto f b n) (cond (is_critical f b n) (edge b n ∷ []) [])

    last : length (edges_upto f b n) ≤ j → (c : Bool) → is_critical f b n ≡ c → IsEdgeAmong f b (suc n) j
    last past true e =
        let one : length (cond (is_critical f b n) (edge b n ∷ []) []) ≡ 1 = rw e refl in
        record { at = n; less = omega arith; critical = e; number = omega (arith, past, less, long, one) }
    last past false e =
        let none : length (cond (is_critical f b n) (edge b n ∷ []) []) ≡ 0 = rw e refl in
        absurd (omega (arith, past, less, long, none))

    by : (c : Bool) → nat_lt j (length (edges_upto f b n)) ≡ c → IsEdgeAmong f b (suc n) j
    by true e =
        let lower : j < length (edges_upto f b n) = grind (arith, nat_tests) in
        let h = rest lower in
        record { at = h.at; less = omega (arith, h.less); critical = h.critical; number = h.number }
    by false e =
        let past : length (edges_upto f b n) ≤ j = grind (arith, nat_tests) in
        last past (is_critical f b n) refl

edge-of : (f : FunctionValue) (b n j : ℕ) → j < length (edges_upto f b n) → IsEdgeAmong f b n j
edge-of f b zero j less = absurd (omega arith)
edge-of f b (suc n) j less = edge-step f b n j less (λ lower. edge-of f b n j lower)

-- the edge at a position of the critical edges of the first `n` blocks
pub record IsEdge (f : FunctionValue) (n j : ℕ) : Type 0 where
  pub from : ℕ
  pub position : ℕ
  pub block : from < n
  pub successor : position < length (block_at f from).succs
  pub critical : is_critical f from position ≡ true
  pub number : length (edges_before f from ++ edges_upto f from position) ≡ j

edges-step : (f : FunctionValue) (n j : ℕ) → j < length (edges_before f (suc n)) → (j < length (edges_before f n) → IsEdge f n j) → IsEdge f (suc n) j
edges-step f n j less rest = by (nat_lt j (length (edges_before f n))) refl
  where
    many : ℕ
    many = length (block_at f n).succs

    long : length (edges_before f (suc n)) ≡ length (edges_before f n) + length (edges_upto f n many)
    long = length-append (edges_before f n) (edges_upto f n many)

    by : (c : Bool) → nat_lt j (length (edges_before f n)) ≡ c → IsEdge f (suc n) j
    by true e =
        let lower : j < length (edges_before f n) = grind (arith, nat_tests) in
        let h = rest lower in
        record { from = h.from; position = h.position; block = omega (arith, h.block); successor = h.successor; critical = h.critical; number = h.number }
    by false e =
        let past : length (edges_before f n) ≤ j = grind (arith, nat_tests) in
        let h = edge-of f n many (j - length (edges_before f n)) (omega (arith, past, less, long)) in
        record {
          from = n;
          position = h.at;
          block = omega arith;
          successor = h.less;
          critical = h.critical;
          number = length-append (edges_before f n) (edges_upto f n h.at) ∙ omega (arith, h.number, past);
        }

pub edge-at : (f : FunctionValue) (n j : ℕ) → j < length (edges_before f n) → IsEdge f n j
edge-at f zero j less = absurd (omega arith)
edge-at f (suc n) j less = edges-step f n j less (λ lower. edge-at f n j lower)

pub range-more : (n : ℕ) → range_with_len 0 (suc n) ≡ range_with_len 0 n ++ n ∷ []
range-more n =
    let next : suc n ≡ n + 1 = omega arith in
    let at : 0 + n ≡ n = omega arith in
    ap (range_with_len 0) next ∙ sym (map-id (range_with_len 0 (n + 1))) ∙ map-range_with_len_more (λ (x : ℕ). x) 0 n n at
    ∙ ap (λ (xs : List ℕ). xs ++ n ∷ []) (map-id (range_with_len 0 n))

upto-counted : (f : FunctionValue) (b n : ℕ) → length (edges_upto f b n) ≡ count_by (is_critical f b) (range_with_len 0 n)
upto-counted f b zero = refl
upto-counted f b (suc n) =
    length-append (edges_upto f b n) (cond (is_critical f b n) (edge b n ∷ []) [])
    ∙ omega (arith, upto-counted f b n, one (is_critical f b n), more)
  where
    one : (c : Bool) → length (cond c (edge b n ∷ []) []) ≡ cond c 1 0
    one true = refl
    one false = refl

    more : count_by (is_critical f b) (range_with_len 0 (suc n)) ≡ count_by (is_critical f b) (range_with_len 0 n) + cond (is_critical f b n) 1 0
    more = ap (count_by (is_critical f b)) (range-more n) ∙ sum_by_push (λ x. cond (is_critical f b x) 1 0) (range_with_len 0 n) n

before-counted : (f : FunctionValue) (n : ℕ) → length (edges_before f n) ≡ sum_by (critical_from f) (range_with_len 0 n)
before-counted f zero = refl
before-counted f (suc n) =
    length-append (edges_before f n) (edges_upto f n (length (block_at f n).succs))
    ∙ omega (arith, before-counted f n, upto-counted f n (length (block_at f n).succs), more)
  where
    more : sum_by (critical_from f) (range_with_len 0 (suc n)) ≡ sum_by (critical_from f) (range_with_len 0 n) + critical_from f n
    more = ap (sum_by (critical_from f)) (range-more n) ∙ sum_by_push (critical_from f) (range_with_len 0 n) n

-- there are as many new blocks as critical edges
pub edges-counted : (f : FunctionValue) → length (edges_before f (length f.blocks)) ≡ critical_in f
edges-counted f = before-counted f (length f.blocks)
