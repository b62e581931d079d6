-- More predecessors.
use Rattle.std.proofs.Common.{◌≡◌, ℕ, ◌+◌, ◌<◌, List, [], ◌∷◌, ◌++◌, length, get_or, set, map, take, drop, refl, sym, ap, ◌∙◌, arith}
use Rattle.std.specs.Prelude.{Contains, All}
use Rattle.std.proofs.Math.ListN.{get_or-map as get_or_map}
use Rattle.std.proofs.Math.Seq.{map-set_same}
use Rattle.std.proofs.lemmas.Grind.{common_steps, get_or-set_at}
use Rattle.std.proofs.lemmas.List.{length-map, map-set, get_or-map, get_or-set_other, append-nil, append_assoc, take_more, drop_more}
use Rattle.std.proofs.lemmas.List.Concat.{flat_map-append}
use Rattle.std.proofs.lemmas.List.Elements.{Contains-get_or, All-append, All-cons, All-nil}
use Rattle.regalloc2_function.specs.FunctionValue.{BlockValue, no_block}
use Rattle.regalloc2_serialize.specs.declared.table_function.table.TableBlock.{TableBlock}
use Rattle.regalloc2_serialize.specs.declared.table_function.builder.BuildError.{BuildError}
use Rattle.regalloc2_serialize.specs.declared.table_function.builder.BuildError.TheVariants.{Memory, NoBlock, TooManyBlocks, TooManyInsts, TooManyVRegs}
use Rattle.regalloc2_serialize.specs.TableFunction.Table.{block_of_table}
use Rattle.regalloc2_serialize.specs.TableFunction.Draft.{IsUnadded}
use Rattle.regalloc2_serialize.specs.TableFunction.Built.{without_preds, edges_to, preds_from}
use Rattle.regalloc2_serialize.specs.TableFunction.Steps.{HasPreds, one_edge, preds_at, succs_at, IsUnlinked, AreUnlinked}

-- the block with one more predecessor, listed last
abbrev pub with_pred : ℕ → BlockValue → BlockValue
with_pred pred b = record b { preds = b.preds ++ pred ∷ [] }

-- one more predecessor of block `i` adds one edge to the blocks, and nothing else
pub pred_more : (xs : List BlockValue) (i pred : ℕ) → i < length xs → HasPreds xs (one_edge i pred) (set xs i (with_pred pred (get_or xs i no_block)))
pred_more xs i pred l = record {
  others = map-set_same without_preds xs i (with_pred pred (get_or xs i no_block)) no_block refl;
  preds = λ b lb. grind (arith, common_steps, get_or-set_at, get_or-set_other);
}

-- in a table, one more predecessor of block `i` adds one edge, and nothing else
pub pred_added : {A : Type 0} (xs : List (TableBlock A)) (i pred : ℕ) (x y : TableBlock A) → i < length xs → x ≡ get_or xs i x →
    block_of_table y ≡ with_pred pred (block_of_table x) → HasPreds (map block_of_table xs) (one_edge i pred) (map block_of_table (set xs i y))
pred_added xs i pred x y l is e =
    let there : get_or (map block_of_table xs) i no_block ≡ block_of_table x = get_or-map block_of_table xs i x no_block l ∙ ap block_of_table (sym is) in
    let q : map block_of_table (set xs i y) ≡ set (map block_of_table xs) i (with_pred pred (get_or (map block_of_table xs) i no_block)) = map-set
    block_of_table xs i y
    ∙ ap (λ (b : BlockValue). set (map block_of_table xs) i b) (e ∙ ap (with_pred pred) (sym there)) in
    rw q (pred_more (map block_of_table xs) i pred (rw length-map l))

bare_at : (bs : List BlockValue) (b : ℕ) → get_or (map without_preds bs) b no_block ≡ without_preds (get_or bs b no_block)
bare_at bs b = get_or_map without_preds bs b no_block

-- blocks that differ in predecessors at most have the same successors
pub same_succs : (xs ys : List BlockValue) (b : ℕ) → map without_preds ys ≡ map without_preds xs → succs_at ys b ≡ succs_at xs b
same_succs xs ys b e = ap (λ (x : BlockValue). x.succs) (sym (bare_at ys b) ∙ ap (λ (bs : List BlockValue). get_or bs b no_block) e ∙ bare_at xs b)

-- lists of blocks that differ in predecessors at most are equally long
pub same_length : (xs ys : List BlockValue) → map without_preds ys ≡ map without_preds xs → length ys ≡ length xs
same_length xs ys e = sym (length-map ys without_preds) ∙ ap length e ∙ length-map xs without_preds

-- adding some predecessors and then others adds both, in this order
pub preds_both : (xs ys zs : List BlockValue) (m n o : ℕ → List ℕ) → HasPreds xs m ys → HasPreds ys n zs → ((b : ℕ) → m b ++ n b ≡ o b) → HasPreds xs o zs
preds_both xs ys zs m n o first next e =
    let long = same_length xs ys first.others in
    record {
      others = next.others ∙ first.others;
      preds = λ b l. next.preds b (omega (arith, long, l)) ∙ ap (λ (p : List ℕ). p ++ n b) (first.preds b l) ∙ append_assoc (preds_at xs b) (m b) (n b)
          ∙ ap (λ (p : List ℕ). preds_at xs b ++ p) (e b);
    }

-- the edges of a block's first `k + 1` successors are the edges of its first `k` and the edge to the next
pub edges_more : (b pred : ℕ) (succs : List ℕ) (k to : ℕ) → k < length succs → to ≡ get_or succs k to → edges_to b pred (take k succs)
    ++ one_edge to pred b ≡ edges_to b pred (take (k + 1) succs)
edges_more b pred succs k to l is =
    let f : ℕ → List ℕ = λ s. one_edge s pred b in
    let split : take (k + 1) succs ≡ take k succs ++ to ∷ [] = take_more succs k to l ∙ ap (λ (s : ℕ). take k succs ++ s ∷ []) (sym is) in
    rw split (sym (flat_map-append f (take k succs) (to ∷ []) ∙ ap (λ (p : List ℕ). edges_to b pred (take k succs) ++ p) (append-nil (one_edge to pred b))))

-- the predecessors so far and the predecessors that later edges add stay one list while the edges of block `n` are
-- added
pub preds_step : (all : List (List ℕ)) (n b : ℕ) (succs p q r : List ℕ) → n < length all → succs ≡ get_or all n [] → q ≡ p ++ edges_to b n succs → p
    ++ preds_from b n (drop n all) ≡ r → q ++ preds_from b (n + 1) (drop (n + 1) all) ≡ r
preds_step all n b succs p q r l is e h =
    let split : drop n all ≡ succs ∷ drop (n + 1) all = drop_more all n [] l ∙ ap (λ (s : List ℕ). s ∷ drop (n + 1) all) (sym is) in
    rw e (append_assoc p (edges_to b n succs) (preds_from b (n + 1) (drop (n + 1) all)) ∙ (rw split at h))

-- a reason for which a block can't be made a predecessor of one of its successors is one for which it isn't linked
pub unadded_unlinked : (count n : ℕ) (succs : List ℕ) (k to : ℕ) (e : BuildError) → k < length succs → to ≡ get_or succs k to → n ≡ count → IsUnadded n to e →
    IsUnlinked succs count e
unadded_unlinked count n succs k to Memory l is c h = tt
unadded_unlinked count n succs k to (NoBlock s) l is c h =
    let there : Contains succs (get_or succs k to) = Contains-get_or succs k to l in
    (omega (arith, h.0, h.1), rw (h.0, is) there)
unadded_unlinked count n succs k to TooManyBlocks l is c h = h
unadded_unlinked count n succs k to TooManyInsts l is c h = h
unadded_unlinked count n succs k to TooManyVRegs l is c h = h

-- a reason for which one block isn't linked is one for which the blocks aren't
pub unlinked_blocks : (bs : List BlockValue) (count b : ℕ) (succs : List ℕ) (e : BuildError) → count ≡ length bs → succs ≡ succs_at bs b →
    IsUnlinked succs count e → AreUnlinked bs e
unlinked_blocks bs count b succs Memory c is h = tt
unlinked_blocks bs count b succs (NoBlock s) c is h = record {
  absent = rw length-map (omega (arith, c, h.0));
  from = b;
  listed = rw (get_or_map (λ (x : BlockValue). x.succs) bs b no_block, ← is) h.1;
}
unlinked_blocks bs count b succs TooManyBlocks c is h = h
unlinked_blocks bs count b succs TooManyInsts c is h = h
unlinked_blocks bs count b succs TooManyVRegs c is h = h

-- tables whose blocks differ in predecessors at most have equally many blocks
pub same_count : {A : Type 0} (xs ys : List (TableBlock A)) → map without_preds (map block_of_table ys) ≡ map without_preds (map block_of_table xs) →
    length ys ≡ length xs
same_count xs ys e = sym (length-map ys block_of_table) ∙ same_length (map block_of_table xs) (map block_of_table ys) e ∙ length-map xs block_of_table

-- a block keeps its successors while predecessors are added
pub succs_then : {A : Type 0} (xs ys : List (TableBlock A)) (i : ℕ) (y : TableBlock A) →
    map without_preds (map block_of_table ys) ≡ map without_preds (map block_of_table xs) → i < length xs → y ≡ get_or ys i y →
    y.succs.items ≡ succs_at (map block_of_table xs) i
succs_then xs ys i y e l is =
    let long = same_count xs ys e in
    let there : get_or (map block_of_table ys) i no_block ≡ block_of_table y = get_or-map block_of_table ys i y no_block (omega (arith, long, l))
    ∙ ap block_of_table (sym is) in
    sym (ap (λ (b : BlockValue). b.succs) there) ∙ same_succs (map block_of_table xs) (map block_of_table ys) i e

-- where the first k successors are in range, and so is the next, the first k + 1 are
pub within_more : (succs : List ℕ) (count k to : ℕ) → k < length succs → to ≡ get_or succs k to → to < count → All (λ s. s < count) (take k succs) →
    All (λ s. s < count) (take (k + 1) succs)
within_more succs count k to l is t h =
    let split : take (k + 1) succs ≡ take k succs ++ to ∷ [] = take_more succs k to l ∙ ap (λ (s : ℕ). take k succs ++ s ∷ []) (sym is) in
    rw split (All-append (λ s. s < count) (take k succs) (to ∷ []) h (All-cons (λ s. s < count) to [] t (All-nil _)))

-- a block's successors are the list of its number among the lists of all blocks' successors
pub succs_listed : (bs : List BlockValue) (b : ℕ) → succs_at bs b ≡ get_or (map (λ x. x.succs) bs) b []
succs_listed bs b = sym (get_or_map (λ (x : BlockValue). x.succs) bs b no_block)
