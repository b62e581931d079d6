-- The partial blocks of a function whose critical edges are split: which block has which number, and that each is
-- structurally valid.
use Rattle.std.proofs.Common.{◌≡◌, ◌∙◌, ℕ, zero, suc, ◌+◌, ◌-◌, ◌<◌, ◌≤◌, inl, Bool, true, false, List, [], ◌∷◌, ◌++◌, length, get_or, map, refl, sym, ap, subst, arith}
use Rattle.std.specs.Prelude.{nat_lt, slice_index, slice_index_or}
use Rattle.std.specs.List.{range_with_len}
use Rattle.std.proofs.lemmas.Bool.Decides.{nat_tests}
use Rattle.std.proofs.lemmas.List.{get_or-append-add, get_or-map, get_or_append_left, length-append, length-map}
use Rattle.std.proofs.lemmas.List.FromFn.{get_or-map-range_with_len, length-map-range_with_len}
use Rattle.regalloc2_function.specs.FunctionValue.{FunctionValue, InstValue, block_at, inst_at, no_inst, last_of}
use Rattle.regalloc2_semantics.specs.Runs.{arguments_at}
use Rattle.regalloc2_function.specs.WellFormed.{IsFramed, EndsBlock}
use Rattle.regalloc2_serialize.specs.TableFunction.Draft.{DraftValue, declared_with, draft_at}
use Rattle.regalloc2_serialize.specs.Rewrite.Laid.{IsFramedDraft, start_of}
use Rattle.regalloc2_serialize.specs.Rewrite.SplitEdges.{Edge, edges_before, edges_upto, is_critical, jump_on, kept_block, number_on, split_arguments, split_drafts, split_succ}
use Rattle.regalloc2_serialize.proofs.RewriteLemmas.EdgeLists.{IsAt, IsEdge, at-before, edge, edge-at, no_edge}
use Rattle.regalloc2_serialize.proofs.RewriteLemmas.LaidLaws.{start-next}

module _ (f : FunctionValue) where
  abbrev pub all : List DraftValue
  all = split_drafts f

  abbrev pub new : List Edge
  new = edges_before f (length f.blocks)

  abbrev kept : List DraftValue
  kept = map (kept_block f) (range_with_len 0 (length f.blocks))

  kept-many : length kept ≡ length f.blocks
  kept-many = length-map-range_with_len (kept_block f) 0 (length f.blocks)

  pub all-many : length all ≡ length f.blocks + length new
  all-many = length-append kept (map (jump_on f) new) ∙ omega (arith, kept-many, length-map new (jump_on f))

  -- the first are the blocks
  pub draft-kept : (b : ℕ) → b < length f.blocks → draft_at all b ≡ kept_block f b
  draft-kept b less =
      let at : 0 + b ≡ b = omega arith in
      get_or_append_left kept (map (jump_on f) new) (declared_with []) b (omega (arith, kept-many, less))
      ∙ get_or-map-range_with_len (kept_block f) 0 (length f.blocks) b b (declared_with []) less at

  draft-new : (i : ℕ) (e : Edge) → IsAt new i e → draft_at all (length f.blocks + i) ≡ jump_on f e
  draft-new i e h =
      ap (λ (n : ℕ). draft_at all (n + i)) (sym kept-many) ∙ get_or-append-add kept (map (jump_on f) new) i (declared_with [])
      ∙ get_or-map (jump_on f) new i no_edge (declared_with []) h.less ∙ ap (jump_on f) h.same

  -- behind them are the blocks on critical edges
  pub draft-between : (b k : ℕ) → b < length f.blocks → k < length (block_at f b).succs → is_critical f b k ≡ true →
      draft_at all (number_on f b k) ≡ jump_on f (edge b k)
  draft-between b k less within critical =
      draft-new (length (edges_before f b ++ edges_upto f b k)) (edge b k) (at-before f b k (length f.blocks) less within critical)

  -- the number on an edge is a block's, and no old one's
  pub number-within : (b k : ℕ) → b < length f.blocks → k < length (block_at f b).succs → is_critical f b k ≡ true → number_on f b k < length all
  number-within b k less within critical =
      let at = at-before f b k (length f.blocks) less within critical in
      omega (arith, all-many, at.less)

  -- each block behind the old ones is on an edge
  pub on-edge : (n : ℕ) → length f.blocks ≤ n → n < length all → IsEdge f (length f.blocks) (n - length f.blocks)
  on-edge n from below = edge-at f (length f.blocks) (n - length f.blocks) (omega (arith, all-many, from, below))

  pub edge-number : (n : ℕ) → length f.blocks ≤ n → (e : IsEdge f (length f.blocks) (n - length f.blocks)) → number_on f e.from e.position ≡ n
  edge-number n from e = omega (arith, e.number, from)

-- no two critical edges have blocks of the same number
pub number-apart : (f : FunctionValue) (b k c j : ℕ) → b < length f.blocks → k < length (block_at f b).succs → is_critical f b k ≡ true →
    c < length f.blocks → j < length (block_at f c).succs → is_critical f c j ≡ true → number_on f b k ≡ number_on f c j → (b ≡ c) × (k ≡ j)
number-apart f b k c j less within critical less-too within-too critical-too same =
    let one = at-before f b k (length f.blocks) less within critical in
    let other = at-before f c j (length f.blocks) less-too within-too critical-too in
    let at : length (edges_before f b ++ edges_upto f b k) ≡ length (edges_before f c ++ edges_upto f c j) = omega (arith, same) in
    let e : edge b k ≡ edge c j = sym one.same ∙ ap (λ (i : ℕ). get_or (edges_before f (length f.blocks)) i no_edge) at ∙ other.same in
    (ap (λ (x : Edge). x.from) e, ap (λ (x : Edge). x.position) e)

-- how many instructions a block has
abbrev size : FunctionValue → ℕ → ℕ
size f b = (block_at f b).range.end - (block_at f b).range.first

pub long-kept : (f : FunctionValue) (b : ℕ) → length (kept_block f b).insts ≡ size f b
long-kept f b = length-map-range_with_len (inst_at f) (block_at f b).range.first (size f b)

inst-kept : (f : FunctionValue) (b j : ℕ) → j < size f b → slice_index_or (kept_block f b).insts j no_inst ≡ inst_at f ((block_at f b).range.first + j)
inst-kept f b j less = get_or-map-range_with_len (inst_at f) (block_at f b).range.first (size f b) j ((block_at f b).range.first + j) no_inst less refl

pub count-kept : (f : FunctionValue) (b : ℕ) → length (kept_block f b).succs ≡ length (block_at f b).succs
count-kept f b = length-map-range_with_len (split_succ f b) 0 (length (block_at f b).succs)

-- an edge that isn't critical is kept
pub succ-plain : (f : FunctionValue) (b k : ℕ) → k < length (block_at f b).succs → is_critical f b k ≡ false →
    slice_index (kept_block f b).succs k ≡ slice_index (block_at f b).succs k
succ-plain f b k less plain =
    let at : 0 + k ≡ k = omega arith in
    get_or-map-range_with_len (split_succ f b) 0 (length (block_at f b).succs) k k 0 less at ∙ rw plain refl

pub arguments-plain : (f : FunctionValue) (b k : ℕ) → k < length (block_at f b).succs → is_critical f b k ≡ false →
    slice_index_or (kept_block f b).arguments k [] ≡ arguments_at f b k
arguments-plain f b k less plain =
    let at : 0 + k ≡ k = omega arith in
    get_or-map-range_with_len (split_arguments f b) 0 (length (block_at f b).succs) k k [] less at ∙ rw plain refl

-- a critical edge goes to its block
pub succ-split : (f : FunctionValue) (b k : ℕ) → k < length (block_at f b).succs → is_critical f b k ≡ true →
    slice_index (kept_block f b).succs k ≡ number_on f b k
succ-split f b k less critical =
    let at : 0 + k ≡ k = omega arith in
    get_or-map-range_with_len (split_succ f b) 0 (length (block_at f b).succs) k k 0 less at ∙ rw critical refl

pub arguments-split : (f : FunctionValue) (b k : ℕ) → k < length (block_at f b).succs → is_critical f b k ≡ true →
    slice_index_or (kept_block f b).arguments k [] ≡ []
arguments-split f b k less critical =
    let at : 0 + k ≡ k = omega arith in
    get_or-map-range_with_len (split_arguments f b) 0 (length (block_at f b).succs) k k [] less at ∙ rw critical refl

module _ (f : FunctionValue) (framed : IsFramed f) where
  framed-kept : (b : ℕ) → b < length f.blocks → IsFramedDraft (all f) (kept_block f b)
  framed-kept b less = record { nonempty = nonempty; last = last; others = others; counted = counted }
    where
      first : ℕ
      first = (block_at f b).range.first

      end : ℕ
      end = (block_at f b).range.end

      rises : first < end
      rises = (framed.follow b less).0

      d : DraftValue
      d = kept_block f b

      many : length d.insts ≡ end - first
      many = long-kept f b

      nonempty : 0 < length d.insts
      nonempty = omega (arith, many, rises)

      last : EndsBlock (slice_index_or d.insts (length d.insts - 1) no_inst) (length d.succs)
      last =
          let at : slice_index_or d.insts (length d.insts - 1) no_inst ≡ inst_at f (first + (length d.insts - 1)) =
          inst-kept f b (length d.insts - 1) (omega (arith, many, rises)) in
          let same : first + (length d.insts - 1) ≡ last_of (block_at f b) = omega (arith, many, rises) in
          rw (at, same, count-kept f b) (framed.end b less).0

      others : (j : ℕ) → j + 1 < length d.insts → let i : InstValue = slice_index_or d.insts j no_inst in (i.is_branch ≡ false) × (i.is_ret ≡ false)
      others j more =
          let at : slice_index_or d.insts j no_inst ≡ inst_at f (first + j) = inst-kept f b j (omega (arith, many, more)) in
          rw at ((framed.end b less).1 (first + j) (omega arith) (omega (arith, many, more)) (omega (arith, many, more)))

      passes : (k : ℕ) → k < length (block_at f b).succs → (c : Bool) → is_critical f b k ≡ c →
          length (slice_index_or d.arguments k []) ≡ length (draft_at (all f) (slice_index d.succs k)).params
      passes k inside true e =
          rw (arguments-split f b k inside e, succ-split f b k inside e, draft-between f b k less inside e) refl
      passes k inside false e =
          let t : ℕ = slice_index (block_at f b).succs k in
          rw (arguments-plain f b k inside e, succ-plain f b k inside e, draft-kept f t (framed.successors.1 b less k 0 inside)) (framed.counted b less k inside)

      counted : (k : ℕ) → k < length d.succs → length (slice_index_or d.arguments k []) ≡ length (draft_at (all f) (slice_index d.succs k)).params
      counted k within = passes k (omega (arith, count-kept f b, within)) (is_critical f b k) refl

  jump-counted : (b k : ℕ) → b < length f.blocks → k < length (block_at f b).succs → (i : ℕ) → i < 1 →
      length (slice_index_or (arguments_at f b k ∷ []) i []) ≡ length (draft_at (all f) (slice_index (slice_index (block_at f b).succs k ∷ []) i)).params
  jump-counted b k less inside zero within =
      let t : ℕ = slice_index (block_at f b).succs k in
      rw (draft-kept f t (framed.successors.1 b less k 0 inside)) (framed.counted b less k inside)
  jump-counted b k less inside (suc i) within = absurd (omega (arith, within))

  framed-jump : (b k : ℕ) → b < length f.blocks → k < length (block_at f b).succs → IsFramedDraft (all f) (jump_on f (edge b k))
  framed-jump b k less inside = record {
    nonempty = omega arith;
    last = inl (refl, refl);
    others = λ j more. absurd (omega (arith, more));
    counted = jump-counted b k less inside;
  }

  -- each partial block is structurally valid
  pub framed-all : (n : ℕ) → n < length (all f) → IsFramedDraft (all f) (draft_at (all f) n)
  framed-all n below = by (nat_lt n (length f.blocks)) refl
    where
      by : (c : Bool) → nat_lt n (length f.blocks) ≡ c → IsFramedDraft (all f) (draft_at (all f) n)
      by true e =
          let less : n < length f.blocks = grind (arith, nat_tests) in
          rw (draft-kept f n less) (framed-kept n less)
      by false e =
          let from : length f.blocks ≤ n = grind (arith, nat_tests) in
          let h = on-edge f n from below in
          let at : draft_at (all f) n ≡ jump_on f (edge h.from h.position) =
          ap (draft_at (all f)) (sym (edge-number f n from h)) ∙ draft-between f h.from h.position h.block h.successor h.critical in
          rw at (framed-jump h.from h.position h.block h.successor)

  start-step : (b : ℕ) → b + 1 < length f.blocks → start_of (all f) b ≡ (block_at f b).range.first →
      start_of (all f) (b + 1) ≡ (block_at f (b + 1)).range.first
  start-step b less here =
      let next = start-next (all f) b (omega (arith, all-many f, less)) in
      let many : length (draft_at (all f) b).insts ≡ size f b =
      ap (λ (d : DraftValue). length d.insts) (draft-kept f b (omega (arith, less))) ∙ long-kept f b in
      let rises = (framed.follow b (omega (arith, less))).0 in
      let back : b + 1 - 1 ≡ b = omega arith in
      let joined : (block_at f (b + 1)).range.first ≡ (block_at f b).range.end =
      (framed.follow (b + 1) less).2 (omega arith) ∙ ap (λ (n : ℕ). (block_at f n).range.end) back in
      omega (arith, next, many, rises, joined, here)

  -- each old block begins where it did
  pub start-kept : (b : ℕ) → b < length f.blocks → start_of (all f) b ≡ (block_at f b).range.first
  start-kept zero less = sym ((framed.follow 0 less).1 refl)
  start-kept (suc b) less =
      let next : b + 1 ≡ suc b = omega arith in
      subst (λ (n : ℕ). start_of (all f) n ≡ (block_at f n).range.first) next
      (start-step b (omega (arith, less)) (start-kept b (omega (arith, less))))
