-- In how many ways a block is entered, where critical edges are split.
use Rattle.std.proofs.Common.{◌≡◌, ◌∙◌, ℕ, zero, suc, ◌+◌, ◌<◌, Bool, true, false, cond, nat_eq, List, [], ◌∷◌, ◌++◌, length, map, refl, sym, ap, arith}
use Rattle.std.specs.Prelude.{◌≢◌, slice_index, sum_by}
use Rattle.std.specs.List.{range_with_len}
use Rattle.std.proofs.lemmas.Bool.Decides.{nat_tests}
use Rattle.std.proofs.lemmas.List.{length-append, map-append}
use Rattle.std.proofs.lemmas.List.Sums.{sum_by-append, sum_by-cons, sum_by_push}
use Rattle.regalloc2_function.specs.FunctionValue.{FunctionValue, BlockValue, block_at, no_block}
use Rattle.regalloc2_function.specs.WellFormed.{IsFramed, times_in}
use Rattle.regalloc2_serialize.specs.TableFunction.Draft.{DraftValue}
use Rattle.regalloc2_serialize.specs.TableFunction.Built.{edges_to, preds_from}
use Rattle.regalloc2_serialize.specs.Rewrite.SplitEdges.{Edge, edges_before, edges_upto, is_critical, jump_on, kept_block, number_on, split_drafts, split_succ}
use Rattle.regalloc2_serialize.proofs.RewriteLemmas.EdgeLists.{edge, range-more}
use Rattle.regalloc2_serialize.proofs.RewriteLemmas.Lists.{members, sum_by-alike, sum_by-map}

abbrev pub one : ℕ → ℕ → ℕ
one t x = cond (nat_eq x t) 1 0

pub times-append : (t : ℕ) (xs ys : List ℕ) → times_in t (xs ++ ys) ≡ times_in t xs + times_in t ys
times-append t xs ys = sum_by-append (λ x. cond (nat_eq x t) 1 0) xs ys

pub times-push : (t : ℕ) (xs : List ℕ) (x : ℕ) → times_in t (xs ++ x ∷ []) ≡ times_in t xs + one t x
times-push t xs x = sum_by_push (λ x. cond (nat_eq x t) 1 0) xs x

pub times-cons : (t x : ℕ) (xs : List ℕ) → times_in t (x ∷ xs) ≡ one t x + times_in t xs
times-cons t x xs = sum_by-cons (λ x. cond (nat_eq x t) 1 0) x xs

pub one-same : (t x : ℕ) → x ≡ t → one t x ≡ 1
one-same t x same = let e : nat_eq x t ≡ true = grind (arith, nat_tests) in rw e refl

pub one-other : (t x : ℕ) → x ≢ t → one t x ≡ 0
one-other t x apart = let e : nat_eq x t ≡ false = grind (arith, nat_tests) in rw e refl

-- a block has as many predecessors as it is listed
edge-count : (b p s : ℕ) → length (cond (nat_eq s b) (p ∷ []) []) ≡ one b s
edge-count b p s = by (nat_eq s b)
  where
    by : (c : Bool) → length (cond c (p ∷ []) []) ≡ cond c 1 0
    by true = refl
    by false = refl

edges-count : (b p : ℕ) (succs : List ℕ) → length (edges_to b p succs) ≡ times_in b succs
edges-count b p [] = refl
edges-count b p (s ∷ ss) =
    length-append (cond (nat_eq s b) (p ∷ []) []) (edges_to b p ss) ∙ omega (arith, edge-count b p s, edges-count b p ss, times-cons b s ss)

pub preds-count : (b first : ℕ) (all : List (List ℕ)) → length (preds_from b first all) ≡ sum_by (times_in b) all
preds-count b first [] = refl
preds-count b first (succs ∷ rest) =
    length-append (edges_to b first succs) (preds_from b (first + 1) rest)
    ∙ omega (arith, edges-count b first succs, preds-count b (first + 1) rest, sum_by-cons (times_in b) succs rest)

-- where a new block's jump goes
abbrev end_of_edge : FunctionValue → Edge → ℕ
end_of_edge f e = slice_index (block_at f e.from).succs e.position

module _ (f : FunctionValue) (framed : IsFramed f) (t : ℕ) (old : t < length f.blocks) where
  abbrev listed : ℕ → ℕ → ℕ
  listed b k = times_in t (map (slice_index (block_at f b).succs) (range_with_len 0 k))

  abbrev kept : ℕ → ℕ → ℕ
  kept b k = times_in t (map (split_succ f b) (range_with_len 0 k))

  abbrev jumping : List Edge → ℕ
  jumping es = times_in t (map (end_of_edge f) es)

  map-more : (h : ℕ → ℕ) (k : ℕ) → map h (range_with_len 0 (suc k)) ≡ map h (range_with_len 0 k) ++ h k ∷ []
  map-more h k = ap (map h) (range-more k) ∙ map-append h (range_with_len 0 k) (k ∷ [])

  one-edge : (b k : ℕ) → one t (split_succ f b k) + jumping (cond (is_critical f b k) (edge b k ∷ []) [])
      ≡ one t (slice_index (block_at f b).succs k)
  one-edge b k = by (is_critical f b k) refl
    where
      by : (c : Bool) → is_critical f b k ≡ c → one t (split_succ f b k) + jumping (cond (is_critical f b k) (edge b k ∷ []) [])
          ≡ one t (slice_index (block_at f b).succs k)
      by true e =
          let to : split_succ f b k ≡ number_on f b k = rw e refl in
          let none : one t (split_succ f b k) ≡ 0 = one-other t (split_succ f b k) (λ same. omega (arith, to, same, old)) in
          let jump : jumping (cond (is_critical f b k) (edge b k ∷ []) []) ≡ one t (slice_index (block_at f b).succs k) + 0 =
          rw e (times-cons t (slice_index (block_at f b).succs k) []) in
          omega (arith, none, jump)
      by false e =
          let to : split_succ f b k ≡ slice_index (block_at f b).succs k = rw e refl in
          let none : jumping (cond (is_critical f b k) (edge b k ∷ []) []) ≡ 0 = rw e refl in
          let same : one t (split_succ f b k) ≡ one t (slice_index (block_at f b).succs k) = ap (one t) to in
          omega (arith, same, none)

  jumping-append : (xs ys : List Edge) → jumping (xs ++ ys) ≡ jumping xs + jumping ys
  jumping-append xs ys = ap (times_in t) (map-append (end_of_edge f) xs ys) ∙ times-append t (map (end_of_edge f) xs) (map (end_of_edge f) ys)

  upto-same : (b k : ℕ) → kept b k + jumping (edges_upto f b k) ≡ listed b k
  upto-same b zero = refl
  upto-same b (suc k) =
      omega (
        arith,
        ap (times_in t) (map-more (split_succ f b) k) ∙ times-push t (map (split_succ f b) (range_with_len 0 k)) (split_succ f b k),
        ap (times_in t) (map-more (slice_index (block_at f b).succs) k)
            ∙ times-push t (map (slice_index (block_at f b).succs) (range_with_len 0 k)) (slice_index (block_at f b).succs k),
        jumping-append (edges_upto f b k) (cond (is_critical f b k) (edge b k ∷ []) []),
        upto-same b k,
        one-edge b k,
      )

  abbrev whole : ℕ → ℕ
  whole b = length (block_at f b).succs

  before-same : (n : ℕ) → sum_by (λ b. kept b (whole b)) (range_with_len 0 n) + jumping (edges_before f n)
      ≡ sum_by (λ b. listed b (whole b)) (range_with_len 0 n)
  before-same zero = refl
  before-same (suc n) =
      omega (
        arith,
        ap (sum_by (λ b. kept b (whole b))) (range-more n) ∙ sum_by_push (λ b. kept b (whole b)) (range_with_len 0 n) n,
        ap (sum_by (λ b. listed b (whole b))) (range-more n) ∙ sum_by_push (λ b. listed b (whole b)) (range_with_len 0 n) n,
        jumping-append (edges_before f n) (edges_upto f n (whole n)),
        before-same n,
        upto-same n (whole n),
      )

  jumps-counted : (es : List Edge) → sum_by (times_in t) (map (λ d. d.succs) (map (jump_on f) es)) ≡ jumping es
  jumps-counted [] = refl
  jumps-counted (e ∷ es) =
      sum_by-cons (times_in t) (jump_on f e).succs (map (λ d. d.succs) (map (jump_on f) es))
      ∙ omega (
        arith,
        jumps-counted es,
        times-cons t (end_of_edge f e) [],
        times-cons t (end_of_edge f e) (map (end_of_edge f) es),
      )

  listed-whole : (b : ℕ) → listed b (whole b) ≡ times_in t (block_at f b).succs
  listed-whole b = ap (times_in t) (members (block_at f b).succs 0)

  -- a block that isn't new has as many predecessors as it is listed among successors
  pub preds-many : length (preds_from t 0 (map (λ d. d.succs) (split_drafts f))) ≡ sum_by (λ b. times_in t b.succs) f.blocks
  preds-many =
      let blocks : List DraftValue = map (kept_block f) (range_with_len 0 (length f.blocks)) in
      let jumps : List DraftValue = map (jump_on f) (edges_before f (length f.blocks)) in
      let split : map (λ (d : DraftValue). d.succs) (blocks ++ jumps) ≡ map (λ d. d.succs) blocks ++ map (λ d. d.succs) jumps =
      map-append (λ (d : DraftValue). d.succs) blocks jumps in
      let first : sum_by (times_in t) (map (λ (d : DraftValue). d.succs) blocks) ≡ sum_by (λ b. kept b (whole b)) (range_with_len 0 (length f.blocks)) =
      sum_by-map (times_in t) (λ (d : DraftValue). d.succs) blocks
      ∙ sum_by-map (λ (d : DraftValue). times_in t d.succs) (kept_block f) (range_with_len 0 (length f.blocks)) in
      let old-blocks : sum_by (λ (b : BlockValue). times_in t b.succs) f.blocks ≡ sum_by (λ b. listed b (whole b)) (range_with_len 0 (length f.blocks)) =
      ap (sum_by (λ (b : BlockValue). times_in t b.succs)) (sym (members f.blocks no_block))
      ∙ sum_by-map (λ (b : BlockValue). times_in t b.succs) (block_at f) (range_with_len 0 (length f.blocks))
      ∙ sum_by-alike (λ (b : ℕ). times_in t (block_at f b).succs) (λ b. listed b (whole b)) (range_with_len 0 (length f.blocks)) (λ b. sym (listed-whole b)) in
      preds-count t 0 (map (λ d. d.succs) (split_drafts f)) ∙ ap (sum_by (times_in t)) split
      ∙ sum_by-append (times_in t) (map (λ (d : DraftValue). d.succs) blocks) (map (λ d. d.succs) jumps)
      ∙ omega (arith, first, jumps-counted (edges_before f (length f.blocks)), before-same (length f.blocks), old-blocks)
