-- A pass over all successors that meets each block's predecessors in the order of its list.
use Rattle.std.proofs.Common.{ℕ, zero, suc, ◌≡◌, ◌+◌, ◌-◌, ◌*◌, ◌<◌, ◌≤◌, Bool, true, false, List, [], ◌∷◌, ◌++◌, length, get_or, set, replicate, take, drop}
use Rattle.std.proofs.Common.{refl, sym, ap, ◌∙◌, eq-eqb, add-one, append_assoc, append-nil, subst, inl, inr, arith}
use Rattle.std.specs.Prelude.{◌↔◌, cond, flat_map, nat_eq}
use Rattle.std.proofs.Math.Seq.{drop-cons, drop-length}
use Rattle.std.proofs.lemmas.Bool.{cases_eq, ne_eqb}
use Rattle.std.proofs.lemmas.List.{get_or_at, get_or-set_other, get_or-set_same, length-append, replicate-append-replicate, take_all}
use Rattle.std.proofs.lemmas.List.Sums.{count_by_more_no, count_by_more_yes, sum_by-append}
use Rattle.std.proofs.lemmas.List.Folds.{sum_by-replicate}
use Rattle.regalloc2_index.specs.Range.{numbers_from}
use Rattle.regalloc2_function.specs.FunctionValue.{FunctionValue, block_at, EachBlock}
use Rattle.regalloc2_function.specs.WellFormed.{SuccessorsAreBlocks, times_in, PredecessorsAt}
use Rattle.regalloc2_function.specs.Inside.Ways.{ListedInOrder, MetSoFar, ways_of_first}
use Rattle.regalloc2_function.proofs.ListsInParts.{numbers_more, numbers_split}
use Rattle.regalloc2_function.proofs.PredsListed.{all_ways_end, all_ways_more}
use Rattle.regalloc2_function.proofs.TimesInList.{times-take}

-- the predecessors of block n among the first b blocks and the first i positions of block b
abbrev pub met_part : FunctionValue → ℕ → ℕ → ℕ → List ℕ
met_part f b i n = ways_of_first f b n ++ replicate (times_in n (take i (block_at f b).succs)) b

-- `ws` are the first items of a list, and their count
abbrev pub AreFirst : List ℕ → ℕ → List ℕ → Type 0
AreFirst ws c xs = (c ≡ length ws) × (xs ≡ ws ++ drop c xs)

-- the predecessors met so far are the first of each block's list
abbrev pub MetInPart : FunctionValue → ℕ → ℕ → List ℕ → Type 0
MetInPart f b i counts = EachBlock f (λ n block. AreFirst (met_part f b i n) (get_or counts n 0) block.preds)

-- a successor is a block
pub succ_within : (f : FunctionValue) (b i s : ℕ) → SuccessorsAreBlocks f → b < length f.blocks → i < length (block_at f b).succs →
    s ≡ get_or (block_at f b).succs i s → s < length f.blocks
succ_within f b i s blocks here less is = subst (λ m. m < length f.blocks) (sym is) (blocks.1 b here i s less)

-- one block more, at the end of the range
ways_next : (f : FunctionValue) (b n : ℕ) → ways_of_first f (b + 1) n ≡ ways_of_first f b n ++ replicate (times_in n (block_at f b).succs) b
ways_next f b n =
    let o : 0 + b ≡ b = omega arith in
    numbers_more (λ p. replicate (times_in n (block_at f p).succs) p) 0 b
    ∙ ap (λ m. ways_of_first f b n ++ replicate (times_in n (block_at f m).succs) m) o

-- all positions of a block
pub met_block : (f : FunctionValue) (b i : ℕ) (counts : List ℕ) → length (block_at f b).succs ≤ i → MetInPart f b i counts → MetSoFar f (b + 1) counts
met_block f b i counts all h n less =
    let e : met_part f b i n ≡ ways_of_first f (b + 1) n = ap (λ l. ways_of_first f b n ++ replicate (times_in n l) b) (take_all i (block_at f b).succs all)
    ∙ sym (ways_next f b n) in
    subst (λ ws. AreFirst ws (get_or counts n 0) (block_at f n).preds) e (h n less)

-- one more of a list is met
one_met : (ws xs : List ℕ) (t c b : ℕ) → c < length xs → get_or xs c b ≡ b → AreFirst (ws ++ replicate t b) c xs →
    AreFirst (ws ++ replicate (t + 1) b) (c + 1) xs
one_met ws xs t c b less is h =
    let more : ws ++ replicate (t + 1) b ≡ (ws ++ replicate t b) ++ b ∷ [] = ap (λ l. ws ++ l) (sym (replicate-append-replicate t 1 b))
    ∙ sym (append_assoc ws (replicate t b) (b ∷ [])) in
    let rest : drop c xs ≡ b ∷ drop (c + 1) xs = drop-cons xs c b less ∙ ap (λ y. y ∷ drop (suc c) xs) is ∙ ap (λ m. b ∷ drop m xs) (sym (add-one c)) in (
      ap (λ m. m + 1) h.0 ∙ sym (length-append (ws ++ replicate t b) (b ∷ [])) ∙ ap length (sym more),
      h.1 ∙ ap (λ l. (ws ++ replicate t b) ++ l) rest ∙ sym (append_assoc (ws ++ replicate t b) (b ∷ []) (drop (c + 1) xs))
          ∙ ap (λ l. l ++ drop (c + 1) xs) (sym more),
    )

-- one position more
pub met_more : (f : FunctionValue) (b i s : ℕ) (counts : List ℕ) → i < length (block_at f b).succs → s ≡ get_or (block_at f b).succs i s →
    s < length counts → get_or counts s 0 < length (block_at f s).preds → get_or (block_at f s).preds (get_or counts s 0) b ≡ b →
    MetInPart f b i counts → MetInPart f b (i + 1) (set counts s (get_or counts s 0 + 1))
met_more f b i s counts less is there short next h n within =
    let succs : List ℕ = (block_at f b).succs in
    let ws : List ℕ = ways_of_first f b n in
    let xs : List ℕ = (block_at f n).preds in
    let c : ℕ = get_or counts s 0 in
    elim (cases_eq s n) [
      | inl e ↦ (let now : get_or (set counts s (c + 1)) n 0 ≡ get_or counts n 0 + 1 = ap (λ m. get_or (set counts s (c + 1)) m 0) (sym e)
          ∙ get_or-set_same counts s (c + 1) 0 there ∙ ap (λ m. get_or counts m 0 + 1) e in
          let more : times_in n (take (i + 1) succs) ≡ times_in n (take i succs) + 1 = count_by_more_yes (λ x. nat_eq x n) succs i s less
          (eq-eqb (get_or succs i s) n (sym is ∙ e)) in
          let met : AreFirst (ws ++ replicate (times_in n (take i succs) + 1) b) (get_or counts n 0 + 1) xs = one_met ws xs (times_in n (take i succs))
          (get_or counts n 0) b (subst (λ m. get_or counts m 0 < length (block_at f m).preds) e short)
          (subst (λ m. get_or (block_at f m).preds (get_or counts m 0) b ≡ b) e next) (h n within) in
          subst (λ m. AreFirst (ws ++ replicate (times_in n (take (i + 1) succs)) b) m xs) (sym now)
          (subst (λ m. AreFirst (ws ++ replicate m b) (get_or counts n 0 + 1) xs) (sym more) met))
      | inr ne ↦ (let now : get_or (set counts s (c + 1)) n 0 ≡ get_or counts n 0 = get_or-set_other counts s n (c + 1) 0 (λ q. ne (sym q)) in
          let none : times_in n (take (i + 1) succs) ≡ times_in n (take i succs) = count_by_more_no (λ x. nat_eq x n) succs i s less
          (ne_eqb (get_or succs i s) n (λ q. ne (is ∙ q))) in
          subst (λ m. AreFirst (ws ++ replicate (times_in n (take (i + 1) succs)) b) m xs) (sym now)
          (subst (λ m. AreFirst (ws ++ replicate m b) (get_or counts n 0) xs) (sym none) (h n within)))
    ]

-- the item past some of several equal ones
is_next : (ws rest xs : List ℕ) (t all c b : ℕ) → t < all → xs ≡ (ws ++ replicate all b) ++ rest → c ≡ length (ws ++ replicate t b) →
    (c < length xs) × (get_or xs c b ≡ b)
is_next ws rest xs t all c b less is long =
    let m : ℕ = all - t - 1 in
    let sum : all ≡ t + suc m = omega arith in
    let first : List ℕ = ws ++ replicate t b in
    let parts : replicate all b ≡ replicate t b ++ b ∷ replicate m b = ap (λ k. replicate k b) sum ∙ sym (replicate-append-replicate t (suc m) b) in
    let split : xs ≡ first ++ b ∷ (replicate m b ++ rest) = is ∙ ap (λ l. (ws ++ l) ++ rest) parts
    ∙ ap (λ l. l ++ rest) (sym (append_assoc ws (replicate t b) (b ∷ replicate m b))) ∙ append_assoc first (b ∷ replicate m b) rest in
    let whole : length xs ≡ length first + suc (length (replicate m b ++ rest)) = ap length split ∙ length-append first (b ∷ (replicate m b ++ rest)) in
    (omega (arith, whole, long), ap (λ l. get_or l c b) split ∙ get_or_at first b (replicate m b ++ rest) b c (sym long))

-- where the order is kept, the next predecessor is the block of the pass
pub next_met : (f : FunctionValue) (b i s c : ℕ) → ListedInOrder f → b < length f.blocks → i < length (block_at f b).succs →
    s ≡ get_or (block_at f b).succs i s → s < length f.blocks → c ≡ length (met_part f b i s) →
    (c < length (block_at f s).preds) × (get_or (block_at f s).preds c b ≡ b)
next_met f b i s c order here less is within long =
    let succs : List ℕ = (block_at f b).succs in
    let h : ℕ → List ℕ = λ p. replicate (times_in s (block_at f p).succs) p in
    let more : times_in s (take (i + 1) succs) ≡ times_in s (take i succs) + 1 = count_by_more_yes (λ x. nat_eq x s) succs i s less
    (eq-eqb (get_or succs i s) s (sym is)) in
    let le = times-take s (i + 1) succs in
    let o : 0 + b ≡ b = omega arith in
    let rest : List ℕ = flat_map h (numbers_from (0 + b + 1) (length f.blocks - b - 1)) in
    is_next (ways_of_first f b s) rest (block_at f s).preds (times_in s (take i succs)) (times_in s succs) c b (omega (arith, more, le))
    (order s within ∙ numbers_split h 0 (length f.blocks) b here ∙ ap (λ m. (ways_of_first f b s ++ h m) ++ rest) o) long

-- how often a block is among the first blocks that lead to n
times_first : (f : FunctionValue) (b n p : ℕ) → (p < b → times_in p (ways_of_first f b n) ≡ times_in n (block_at f p).succs)
    × (b ≤ p → times_in p (ways_of_first f b n) ≡ 0)
times_first f zero n p = (λ less. absurd (omega arith), λ past. refl)
times_first f (suc b) n p =
    let so_far = times_first f b n p in
    let t : ℕ = times_in n (block_at f b).succs in
    let more : times_in p (ways_of_first f (b + 1) n) ≡ times_in p (ways_of_first f b n) + cond (nat_eq b p) t 0 = ap (times_in p) (ways_next f b n)
    ∙ sum_by-append (λ x. cond (nat_eq x p) 1 0) (ways_of_first f b n) (replicate t b)
    ∙ ap (λ m. times_in p (ways_of_first f b n) + m) (times_same b p t) in
    let next = all_ways_more f b n p (times_in p (ways_of_first f b n)) (times_in p (ways_of_first f (b + 1) n)) more so_far.0 so_far.1 in
    subst (λ m. (p < m → times_in p (ways_of_first f m n) ≡ times_in n (block_at f p).succs) × (m ≤ p → times_in p (ways_of_first f m n) ≡ 0)) (add-one b) next
  where
    as_case : (yes : Bool) (t : ℕ) → t * cond yes 1 0 ≡ cond yes t 0
    as_case true t = omega arith
    as_case false t = omega arith

    times_same : (b p t : ℕ) → times_in p (replicate t b) ≡ cond (nat_eq b p) t 0
    times_same b p t = sum_by-replicate (λ x. cond (nat_eq x p) 1 0) t b ∙ as_case (nat_eq b p) t

-- predecessors in this order are counted as they should
pub order_agrees : (f : FunctionValue) → ListedInOrder f → EachBlock f (PredecessorsAt f)
order_agrees f order n less p =
    let end : ℕ = length f.blocks in
    let h = times_first f end n p in
    ap (times_in p) (order n less) ∙ all_ways_end f end n p (times_in p (ways_of_first f end n)) (omega arith) h.0 h.1

-- a pass that met all predecessors of each block met them in order, and the other way round
pub all_met : (f : FunctionValue) (counts : List ℕ) → MetSoFar f (length f.blocks) counts →
    EachBlock f (λ n b. get_or counts n 0 ≡ length b.preds) ↔ ListedInOrder f
all_met f counts met = (
  λ all n less.
      let preds : List ℕ = (block_at f n).preds in
      let ways : List ℕ = ways_of_first f (length f.blocks) n in
      (met n less).1 ∙ ap (λ k. ways ++ drop k preds) (all n less) ∙ ap (λ l. ways ++ l) (drop-length preds) ∙ append-nil ways,
  λ order n less. (met n less).0 ∙ sym (ap length (order n less)),
)
