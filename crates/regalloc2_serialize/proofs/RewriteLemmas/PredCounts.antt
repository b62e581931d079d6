-- A block's predecessors are its listings among successors, counted.
use Rattle.std.proofs.Common.{◌≡◌, ◌∙◌, ℕ, zero, suc, ◌+◌, ◌<◌, Bool, true, false, cond, nat_eq, List, [], ◌∷◌, get_or, map, refl, sym, ap, arith}
use Rattle.std.proofs.Math.ListN.{get_or-map as get_or_map}
use Rattle.std.proofs.lemmas.Bool.Decides.{nat_tests}
use Rattle.regalloc2_function.specs.FunctionValue.{FunctionValue, BlockValue, block_at, no_block, EachBlock}
use Rattle.regalloc2_function.specs.WellFormed.{times_in, PredecessorsAt}
use Rattle.regalloc2_serialize.specs.TableFunction.Draft.{DraftValue, declared_with, draft_at}
use Rattle.regalloc2_serialize.specs.TableFunction.Built.{without_preds, edges_to, preds_from}
use Rattle.regalloc2_serialize.specs.Rewrite.Laid.{HasDrafts}
use Rattle.regalloc2_serialize.proofs.RewriteLemmas.LaidLaws.{count-laid, succs-placed}
use Rattle.regalloc2_serialize.proofs.RewriteLemmas.WayCounts.{one, times-append, times-cons}

-- the edges from a block list it as often as it lists their end
edge-itself : (b p s : ℕ) → times_in p (cond (nat_eq s b) (p ∷ []) []) ≡ one b s
edge-itself b p s = by (nat_eq s b)
  where
    same : nat_eq p p ≡ true
    same = grind (arith, nat_tests)

    by : (c : Bool) → times_in p (cond c (p ∷ []) []) ≡ cond c 1 0
    by true = rw same refl
    by false = refl

edges-itself : (b p : ℕ) (succs : List ℕ) → times_in p (edges_to b p succs) ≡ times_in b succs
edges-itself b p [] = refl
edges-itself b p (s ∷ ss) =
    times-append p (cond (nat_eq s b) (p ∷ []) []) (edges_to b p ss)
    ∙ omega (arith, edge-itself b p s, edges-itself b p ss, times-cons b s ss)

edge-other : (b p q s : ℕ) → nat_eq q p ≡ false → times_in p (cond (nat_eq s b) (q ∷ []) []) ≡ 0
edge-other b p q s apart = by (nat_eq s b)
  where
    by : (c : Bool) → times_in p (cond c (q ∷ []) []) ≡ 0
    by true = rw apart refl
    by false = refl

edges-other : (b p q : ℕ) (succs : List ℕ) → nat_eq q p ≡ false → times_in p (edges_to b q succs) ≡ 0
edges-other b p q [] apart = refl
edges-other b p q (s ∷ ss) apart =
    times-append p (cond (nat_eq s b) (q ∷ []) []) (edges_to b q ss)
    ∙ omega (arith, edge-other b p q s apart, edges-other b p q ss apart)

preds-before : (b p first : ℕ) (all : List (List ℕ)) → p < first → times_in p (preds_from b first all) ≡ 0
preds-before b p first [] less = refl
preds-before b p first (succs ∷ rest) less =
    let apart : nat_eq first p ≡ false = grind (arith, nat_tests) in
    times-append p (edges_to b first succs) (preds_from b (first + 1) rest)
    ∙ omega (arith, edges-other b p first succs apart, preds-before b p (first + 1) rest (omega arith))

-- a block is listed as a predecessor of another as often as it lists the other as a successor
pub preds-counted : (b first k : ℕ) (all : List (List ℕ)) → times_in (first + k) (preds_from b first all) ≡ times_in b (get_or all k [])
preds-counted b first k [] = refl
preds-counted b first zero (succs ∷ rest) =
    let at : first + 0 ≡ first = omega arith in
    rw at (times-append first (edges_to b first succs) (preds_from b (first + 1) rest)
    ∙ omega (arith, edges-itself b first succs, preds-before b first (first + 1) rest (omega arith)))
preds-counted b first (suc k) (succs ∷ rest) =
    let at : first + suc k ≡ first + 1 + k = omega arith in
    let apart : nat_eq first (first + 1 + k) ≡ false = grind (arith, nat_tests) in
    rw at (times-append (first + 1 + k) (edges_to b first succs) (preds_from b (first + 1) rest)
    ∙ omega (arith, edges-other b (first + 1 + k) first succs apart, preds-counted b (first + 1) k rest))

-- in a function of partial blocks, predecessors agree with successors
pub preds-agree : (ds : List DraftValue) (f : FunctionValue) → HasDrafts ds f → EachBlock f (PredecessorsAt f)
preds-agree ds f h n less p =
    let succs : (block_at f p).succs ≡ (draft_at ds p).succs =
    ap (λ (b : BlockValue). b.succs) (sym (get_or_map without_preds f.blocks p no_block) ∙ ap (λ (bs : List BlockValue). get_or bs p no_block) h.blocks)
    ∙ succs-placed 0 ds p in
    let at : p ≡ 0 + p = omega arith in
    rw (h.preds n (omega (arith, count-laid ds f h, less)), succs)
    (ap (λ (k : ℕ). times_in k (preds_from n 0 (map (λ d. d.succs) ds))) at
    ∙ preds-counted n 0 p (map (λ d. d.succs) ds)
    ∙ ap (times_in n) (get_or_map (λ (d : DraftValue). d.succs) ds p (declared_with [])))
