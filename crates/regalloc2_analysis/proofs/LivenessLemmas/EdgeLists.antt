-- Lists of blocks that are filled one edge at a time.
use Rattle.std.proofs.Common.{ℕ, zero, suc, ◌≡◌, ◌≢◌, ◌+◌, ◌<◌, ◌≤◌, ◌⊎◌, Bool, true, false, List, [], ◌∷◌, ◌++◌, length, get_or, set, take, refl}
use Rattle.std.proofs.Common.{sym, ap, ◌∙◌, subst, eq-eqb, inl, inr, arith, nat_eq}
use Rattle.std.specs.Prelude.{◌&&◌, ◌||◌, map}
use Rattle.std.proofs.lemmas.Bool.{cases_eq, ne_eqb}
use Rattle.std.proofs.lemmas.List.{get_or-map, get_or-set_other, get_or-set_same, get_or_past, length-map, map-set}
use Rattle.std.proofs.lemmas.List.Folds.{list_any-append, list_any_more}
use Rattle.std.specs.declared.vec.Vec.{Vec}
use Rattle.std.proofs.Math.Bool.{or-false}
use Rattle.regalloc2_function.specs.FunctionValue.{FunctionValue, block_at, no_block}
use Rattle.regalloc2_analysis.specs.Liveness.Edges.{blocks_of, names_block}

-- a list of blocks, one more
names_last : (xs : List ℕ) (b p : ℕ) → names_block (xs ++ b ∷ []) p ≡ (names_block xs p || nat_eq b p)
unfolding names_block
names_last xs b p = list_any-append (λ x. nat_eq x p) xs (b ∷ []) ∙ ap (λ x. names_block xs p || x) (or-false (nat_eq b p))

-- the first i + 1 blocks of a list name a block if the first i do, or if it is the one at i
pub names_next : (xs : List ℕ) (i s n : ℕ) → i < length xs → s ≡ get_or xs i s → names_block (take (i + 1) xs) n ≡ (names_block (take i xs) n || nat_eq s n)
unfolding names_block
names_next xs i s n lt is = list_any_more (λ x. nat_eq x n) xs i s lt ∙ ap (λ x. names_block (take i xs) n || nat_eq x n) (sym is)

-- an empty list names no block
pub names_empty : (n : ℕ) → names_block [] n ≡ false
unfolding names_block
names_empty n = refl

-- the list at an index that is within the lists
pub blocks_here : {A : Type 0} (es : List (Vec ℕ A)) (n : ℕ) (d : Vec ℕ A) → n < length es → blocks_of es n ≡ (get_or es n d).items
blocks_here es n d less = get_or-map (λ w. w.items) es n d [] less

-- the lists with one of them written
blocks_set : {A : Type 0} (es : List (Vec ℕ A)) (s : ℕ) (w : Vec ℕ A) → s < length es → blocks_of (set es s w) s ≡ w.items
blocks_set es s w less = ap (λ l. get_or l s []) (map-set (λ w. w.items) es s w) ∙ get_or-set_same (map (λ w. w.items) es) s w.items [] (simp length-map less)

blocks_kept : {A : Type 0} (es : List (Vec ℕ A)) (s n : ℕ) (w : Vec ℕ A) → n ≢ s → blocks_of (set es s w) n ≡ blocks_of es n
blocks_kept es s n w ne = ap (λ l. get_or l n []) (map-set (λ w. w.items) es s w) ∙ get_or-set_other (map (λ w. w.items) es) s n w.items [] ne

-- one edge more
edge_test : (x b t : Bool) → ((x || (b && t)) || b) ≡ (x || (b && (t || true)))
edge_test true b t = refl
edge_test false true true = refl
edge_test false true false = refl
edge_test false false t = refl

-- once b is added to the list of its successor at i, the lists have b's edges to its first i + 1 successors
pub edges_more : {A : Type 0} (before old : List (Vec ℕ A)) (s b i : ℕ) (d w : Vec ℕ A) (succs : List ℕ) → s < length old → i < length succs →
    s ≡ get_or succs i s → w.items ≡ (get_or old s d).items ++ b ∷ [] →
    ((n p : ℕ) → names_block (blocks_of old n) p ≡ (names_block (blocks_of before n) p || (nat_eq b p && names_block (take i succs) n))) →
    (n p : ℕ) → names_block (blocks_of (set old s w) n) p ≡ (names_block (blocks_of before n) p || (nat_eq b p && names_block (take (i + 1) succs) n))
edges_more before old s b i d w succs there short is grown so_far n p =
    let next = names_next succs i s n short is in
    elim (cases_eq s n) [
      | inl e ↦ (let pushed : blocks_of (set old s w) n ≡ blocks_of old n
          ++ b ∷ [] = subst (λ m. blocks_of (set old s w) m ≡ blocks_of old m ++ b ∷ []) e
          (blocks_set old s w there ∙ grown ∙ ap (λ l. l ++ b ∷ []) (sym (blocks_here old s d there))) in
          let here : nat_eq s n ≡ true = eq-eqb s n e in
          ap (λ l. names_block l p) pushed ∙ names_last (blocks_of old n) b p ∙ ap (λ x. x || nat_eq b p) (so_far n p)
          ∙ edge_test (names_block (blocks_of before n) p) (nat_eq b p) (names_block (take i succs) n)
          ∙ ap (λ x. names_block (blocks_of before n) p || (nat_eq b p && x)) (sym (next ∙ ap (λ x. names_block (take i succs) n || x) here)))
      | inr ne ↦ (let kept : blocks_of (set old s w) n ≡ blocks_of old n = blocks_kept old s n w (λ q. ne (sym q)) in
          ap (λ l. names_block l p) kept ∙ so_far n p
          ∙ ap (λ x. names_block (blocks_of before n) p || (nat_eq b p && x))
          (sym (next ∙ ap (λ x. names_block (take i succs) n || x) (ne_eqb s n ne) ∙ or-false (names_block (take i succs) n))))
    ]

-- before b is added anywhere, the lists have the edges that they had, and b's edges to none of its successors
pub edges_start : {A : Type 0} (es : List (Vec ℕ A)) (b : ℕ) (n p : ℕ) →
    names_block (blocks_of es n) p ≡ (names_block (blocks_of es n) p || (nat_eq b p && names_block [] n))
edges_start es b n p = rw (names_empty n) (none (names_block (blocks_of es n) p) (nat_eq b p))
  where
    none : (x b : Bool) → x ≡ (x || (b && false))
    none true b = refl
    none false true = refl
    none false false = refl

-- a number that is no block has no successors
pub no_succs : (f : FunctionValue) (p : ℕ) → length f.blocks ≤ p → (block_at f p).succs ≡ []
no_succs f p past = ap (λ b. b.succs) (get_or_past f.blocks p no_block past)

-- the edges of the first blocks
abbrev pub HaveEdges : {A : Type 0} → FunctionValue → ℕ → List (Vec ℕ A) → Type 0
HaveEdges f b es = (n p : ℕ) → (p < b → names_block (blocks_of es n) p ≡ names_block (block_at f p).succs n) × (b ≤ p → names_block (blocks_of es n) p ≡ false)

-- lists that had the edges of the first b blocks, and get the edges of block b, have the edges of the first b + 1
pub all_edges_more : {A : Type 0} (f : FunctionValue) (b : ℕ) (old new : List (Vec ℕ A)) → HaveEdges f b old →
    ((n p : ℕ) → names_block (blocks_of new n) p ≡ (names_block (blocks_of old n) p || (nat_eq b p && names_block (block_at f b).succs n))) →
    HaveEdges f (b + 1) new
all_edges_more f b old new h e n p =
    elim (cases_eq b p) [
      | inl same ↦ (let none : names_block (blocks_of old n) p ≡ false = (h n p).1 (omega (arith, same)) in
          let here : nat_eq b p ≡ true = eq-eqb b p same in
          (λ less. e n p ∙ rw (none, here) (ap (λ m. names_block (block_at f m).succs n) same), λ past. absurd (omega (arith, same))))
      | inr ne ↦ (let kept : names_block (blocks_of new n) p ≡ names_block (blocks_of old n) p = e n p
          ∙ rw (ne_eqb b p ne) (or-false (names_block (blocks_of old n) p)) in
          (λ less. kept ∙ (h n p).0 (omega (arith, ne)), λ past. kept ∙ (h n p).1 (omega arith)))
    ]

-- with the edges of all blocks, the list of n names a block exactly where that block has n as a successor
pub all_edges_end : {A : Type 0} (f : FunctionValue) (b : ℕ) (es : List (Vec ℕ A)) → length f.blocks ≤ b → HaveEdges f b es → (n p : ℕ) →
    names_block (blocks_of es n) p ≡ names_block (block_at f p).succs n
all_edges_end f b es all h n p =
    elim (lt_or_le p b) [
      | inl less ↦ (h n p).0 less
      | inr past ↦ (h n p).1 past ∙ sym (ap (λ xs. names_block xs n) (no_succs f p (omega arith)) ∙ names_empty n)
    ]
  where
    lt_or_le : (m n : ℕ) → (m < n) ⊎ (n ≤ m)
    lt_or_le m n = grind arith

-- empty lists, and one more of them
pub empty_more : {A : Type 0} (es : List (Vec ℕ A)) (w : Vec ℕ A) (n : ℕ) → w.items ≡ [] → ((m : ℕ) → blocks_of es m ≡ []) → blocks_of (es ++ w ∷ []) n ≡ []
empty_more [] w zero none h = none
empty_more [] w (suc n) none h = refl
empty_more (e ∷ es) w zero none h = h 0
empty_more (e ∷ es) w (suc n) none h = empty_more es w n none (λ m. h (suc m))
