-- The steps of splitting edges: ways are counted up to two, and an edge adds a block if it is critical.
use Rattle.std.proofs.Common.{◌≡◌, ◌∙◌, ℕ, suc, ◌+◌, ◌<◌, ◌≤◌, Bool, true, false, cond, nat_eq, List, [], ◌∷◌, ◌++◌, length, get_or, map, set, take, refl, sym, ap, subst, arith}
use Rattle.std.specs.Prelude.{◌≢◌, slice_index, sum_by}
use Rattle.std.specs.List.{range_with_len}
use Rattle.std.proofs.lemmas.List.{append-nil, append_assoc, get_or-set_other, get_or-set_same, length-map, map-append, take_more}
use Rattle.std.proofs.lemmas.List.Sums.{sum_by_push}
use Rattle.regalloc2_names.specs.Register.{VirtualRegister}
use Rattle.regalloc2_names.specs.Register.{empty_set}
use Rattle.regalloc2_function.specs.FunctionValue.{FunctionValue, BlockValue, block_at, no_block}
use Rattle.regalloc2_semantics.specs.Runs.{arguments_at}
use Rattle.regalloc2_function.specs.WellFormed.{times_in}
use Rattle.regalloc2_serialize.specs.TableFunction.Draft.{DraftValue}
use Rattle.regalloc2_serialize.specs.Rewrite.SplitEdges.{AgreeUpToTwo, AreJumps, critical_in, edges_before, edges_upto, entries_into, is_critical, jump_on, kept_block, number_on, split_drafts, split_succ}
use Rattle.regalloc2_serialize.proofs.RewriteLemmas.EdgeLists.{at-before, edge, edges-counted, range-more}
use Rattle.regalloc2_serialize.proofs.RewriteLemmas.Lists.{members, sum_by-map}
use Rattle.regalloc2_serialize.proofs.RewriteLemmas.Numbers.{is-other, is-same}
use Rattle.regalloc2_serialize.proofs.RewriteLemmas.WayCounts.{one, one-other, one-same, times-cons, times-push}

pub agree-same : (m n : ℕ) → m ≡ n → AgreeUpToTwo m n
agree-same m n same = (λ less. same, λ less. same)

pub agree-both : (m n o : ℕ) → AgreeUpToTwo m n → AgreeUpToTwo n o → AgreeUpToTwo m o
agree-both m n o first next = (
  λ less. first.0 less ∙ next.0 (omega (arith, less, first.0 less)),
  λ less. first.1 (omega (arith, less, next.1 less)) ∙ next.1 less,
)

pub agree-more : (m n k : ℕ) → AgreeUpToTwo m n → AgreeUpToTwo (m + k) (n + k)
agree-more m n k agree = (
  λ less. ap (λ (i : ℕ). i + k) (agree.0 (omega (arith, less))),
  λ less. ap (λ (i : ℕ). i + k) (agree.1 (omega (arith, less))),
)

-- one block is counted once more
pub counted-one : (counts : List ℕ) (i v t : ℕ) → i < length counts → AgreeUpToTwo v (slice_index counts i + 1) →
    AgreeUpToTwo (slice_index (set counts i v) t) (slice_index counts t + times_in t (i ∷ []))
counted-one counts i v t less more = by (nat_eq t i) refl
  where
    by : (c : Bool) → nat_eq t i ≡ c → AgreeUpToTwo (slice_index (set counts i v) t) (slice_index counts t + times_in t (i ∷ []))
    by true e =
        let same : t ≡ i = is-same t i e in
        let once : times_in t (i ∷ []) ≡ 1 = times-cons t i [] ∙ omega (arith, one-same t i (sym same)) in
        let now : slice_index (set counts i v) t ≡ v = ap (slice_index (set counts i v)) same ∙ get_or-set_same counts i v 0 less in
        let before : slice_index counts t + times_in t (i ∷ []) ≡ slice_index counts i + 1 = omega (arith, once, ap (slice_index counts) same) in
        rw (now, before) more
    by false e =
        let other : t ≢ i = is-other t i e in
        let never : times_in t (i ∷ []) ≡ 0 = times-cons t i [] ∙ omega (arith, one-other t i (λ same. other (sym same))) in
        let now : slice_index (set counts i v) t ≡ slice_index counts t = get_or-set_other counts i t v 0 other in
        agree-same _ _ (omega (arith, now, never))

-- each block is counted as often as it is listed so far
pub counted-next : (old now next : List ℕ) (succs : List ℕ) (k s t : ℕ) → k < length succs → s ≡ get_or succs k s →
    AgreeUpToTwo (slice_index now t) (slice_index old t + times_in t (take k succs)) →
    AgreeUpToTwo (slice_index next t) (slice_index now t + times_in t (s ∷ [])) →
    AgreeUpToTwo (slice_index next t) (slice_index old t + times_in t (take (k + 1) succs))
counted-next old now next succs k s t less is before step =
    let split : take (k + 1) succs ≡ take k succs ++ s ∷ [] = take_more succs k s less ∙ ap (λ (x : ℕ). take k succs ++ x ∷ []) (sym is) in
    let total : slice_index old t + times_in t (take k succs) + times_in t (s ∷ []) ≡ slice_index old t + times_in t (take (k + 1) succs) =
    omega (arith, ap (times_in t) split, times-push t (take k succs) s, times-cons t s []) in
    subst (AgreeUpToTwo (slice_index next t)) total
    (agree-both (slice_index next t) (slice_index now t + times_in t (s ∷ [])) (slice_index old t + times_in t (take k succs) + times_in t (s ∷ [])) step
    (agree-more (slice_index now t) (slice_index old t + times_in t (take k succs)) (times_in t (s ∷ [])) before))

-- how often the first blocks list a block
abbrev pub listed_by : FunctionValue → ℕ → ℕ → ℕ
listed_by f n t = sum_by (λ b. times_in t (block_at f b).succs) (range_with_len 0 n)

pub listed-next : (f : FunctionValue) (now next : List ℕ) (n t : ℕ) → AgreeUpToTwo (slice_index now t) (listed_by f n t) →
    AgreeUpToTwo (slice_index next t) (slice_index now t + times_in t (block_at f n).succs) → AgreeUpToTwo (slice_index next t) (listed_by f (n + 1) t)
listed-next f now next n t before step =
    let up : n + 1 ≡ suc n = omega arith in
    let total : listed_by f n t + times_in t (block_at f n).succs ≡ listed_by f (n + 1) t =
    sym (ap (λ (m : ℕ). listed_by f m t) up ∙ ap (sum_by (λ b. times_in t (block_at f b).succs)) (range-more n)
    ∙ sum_by_push (λ b. times_in t (block_at f b).succs) (range_with_len 0 n) n) in
    subst (AgreeUpToTwo (slice_index next t)) total
    (agree-both (slice_index next t) (slice_index now t + times_in t (block_at f n).succs) (listed_by f n t + times_in t (block_at f n).succs) step
    (agree-more (slice_index now t) (listed_by f n t) (times_in t (block_at f n).succs) before))

-- with the function's start, that is in how many ways a block is entered
pub entered-all : (f : FunctionValue) (now next : List ℕ) (t : ℕ) → AgreeUpToTwo (slice_index now t) (listed_by f (length f.blocks) t) →
    AgreeUpToTwo (slice_index next t) (slice_index now t + times_in t (f.entry ∷ [])) → AgreeUpToTwo (slice_index next t) (entries_into f t)
entered-all f now next t before step =
    let all : sum_by (λ (b : BlockValue). times_in t b.succs) f.blocks ≡ listed_by f (length f.blocks) t =
    ap (sum_by (λ (b : BlockValue). times_in t b.succs)) (sym (members f.blocks no_block))
    ∙ sum_by-map (λ (b : BlockValue). times_in t b.succs) (block_at f) (range_with_len 0 (length f.blocks)) in
    let total : listed_by f (length f.blocks) t + times_in t (f.entry ∷ []) ≡ entries_into f t =
    omega (arith, all, times-cons t f.entry [], turned (nat_eq t f.entry) refl) in
    subst (AgreeUpToTwo (slice_index next t)) total
    (agree-both (slice_index next t) (slice_index now t + times_in t (f.entry ∷ [])) (listed_by f (length f.blocks) t + times_in t (f.entry ∷ [])) step
    (agree-more (slice_index now t) (listed_by f (length f.blocks) t) (times_in t (f.entry ∷ [])) before))
  where
    turned : (c : Bool) → nat_eq t f.entry ≡ c → one t f.entry ≡ cond (nat_eq t f.entry) 1 0
    turned true e = one-same t f.entry (sym (is-same t f.entry e)) ∙ rw e refl
    turned false e = one-other t f.entry (λ same. is-other t f.entry e (sym same)) ∙ rw e refl

upto-next : (f : FunctionValue) (b k : ℕ) → edges_upto f b (k + 1) ≡ edges_upto f b k ++ cond (is_critical f b k) (edge b k ∷ []) []
upto-next f b k = let up : k + 1 ≡ suc k = omega arith in ap (edges_upto f b) up

-- an edge that isn't critical adds nothing
pub plain-jumps : (f : FunctionValue) (b k : ℕ) (ds : List DraftValue) → is_critical f b k ≡ false → AreJumps f b k ds →
    AreJumps f b (k + 1) ds
plain-jumps f b k ds plain before =
    let none-more : cond (is_critical f b k) (edge b k ∷ []) [] ≡ [] = rw plain refl in
    before ∙ ap (λ es. map (jump_on f) (edges_before f b ++ es))
    (sym (upto-next f b k ∙ ap (λ es. edges_upto f b k ++ es) none-more ∙ append-nil (edges_upto f b k)))

-- a critical edge adds a block, which has the next number
pub critical-succ : (f : FunctionValue) (b k : ℕ) (ds : List DraftValue) → is_critical f b k ≡ true → AreJumps f b k ds →
    split_succ f b k ≡ length f.blocks + length ds
critical-succ f b k ds critical before =
    let to : split_succ f b k ≡ number_on f b k = rw critical refl in
    let many : length ds ≡ length (edges_before f b ++ edges_upto f b k) = ap length before ∙ length-map (edges_before f b ++ edges_upto f b k) (jump_on f) in
    omega (arith, to, many)

pub critical-jumps : (f : FunctionValue) (b k : ℕ) (ds : List DraftValue) → is_critical f b k ≡ true → AreJumps f b k ds →
    AreJumps f b (k + 1) (ds ++ jump_on f (edge b k) ∷ [])
critical-jumps f b k ds critical before =
    let more : cond (is_critical f b k) (edge b k ∷ []) [] ≡ edge b k ∷ [] = rw critical refl in
    let edges : edges_before f b ++ edges_upto f b (k + 1) ≡ (edges_before f b ++ edges_upto f b k) ++ edge b k ∷ [] =
    ap (λ es. edges_before f b ++ es) (upto-next f b k ∙ ap (λ es. edges_upto f b k ++ es) more)
    ∙ sym (append_assoc (edges_before f b) (edges_upto f b k) (edge b k ∷ [])) in
    ap (λ xs. xs ++ jump_on f (edge b k) ∷ []) before
    ∙ sym (ap (map (jump_on f)) edges ∙ map-append (jump_on f) (edges_before f b ++ edges_upto f b k) (edge b k ∷ []))

-- no more blocks are added than there are critical edges
pub critical-more : (f : FunctionValue) (b k : ℕ) (ds : List DraftValue) → b < length f.blocks → k < length (block_at f b).succs →
    is_critical f b k ≡ true → AreJumps f b k ds → length ds ≤ critical_in f
critical-more f b k ds less within critical before =
    let at = at-before f b k (length f.blocks) less within critical in
    let many : length ds ≡ length (edges_before f b ++ edges_upto f b k) = ap length before ∙ length-map (edges_before f b ++ edges_upto f b k) (jump_on f) in
    omega (arith, at.less, many, edges-counted f)

-- the blocks before a block, and after it
pub jumps-next : (f : FunctionValue) (b n : ℕ) (ds : List DraftValue) → n ≡ length (block_at f b).succs → AreJumps f b n ds →
    AreJumps f (b + 1) 0 ds
jumps-next f b n ds all before =
    let up : b + 1 ≡ suc b = omega arith in
    before ∙ ap (λ (m : ℕ). map (jump_on f) (edges_before f b ++ edges_upto f b m)) all
    ∙ ap (map (jump_on f)) (sym (append-nil (edges_before f (b + 1)) ∙ ap (edges_before f) up))

-- a jump with an edge's end and arguments is the one on it
pub jump-made : (f : FunctionValue) (b k to : ℕ) (xs : List VirtualRegister) (d : DraftValue) → to ≡ slice_index (block_at f b).succs k →
    xs ≡ arguments_at f b k →
    d ≡ record {
      params = [];
      insts = record { operands = []; clobbers = empty_set; is_branch = true; is_ret = false } ∷ [];
      succs = to ∷ [];
      arguments = xs ∷ [];
    } → d ≡ jump_on f (edge b k)
jump-made f b k to xs d end passed made = made ∙ rw (end, passed) refl

-- the blocks, and the blocks on all critical edges
pub all-made : (f : FunctionValue) (n : ℕ) (ds js : List DraftValue) → n ≡ length f.blocks →
    ds ≡ map (kept_block f) (range_with_len 0 n) → AreJumps f n 0 js → ds ++ js ≡ split_drafts f
all-made f n ds js all blocks jumps =
    let whole : js ≡ map (jump_on f) (edges_before f n) = jumps ∙ ap (map (jump_on f)) (append-nil (edges_before f n)) in
    rw (blocks, whole, all) refl
