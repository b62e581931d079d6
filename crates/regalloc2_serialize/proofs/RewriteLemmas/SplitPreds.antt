-- Where critical edges are split, each new block has one predecessor, and no edge is critical.
use Rattle.std.proofs.Common.{◌≡◌, ◌∙◌, ℕ, zero, suc, ◌+◌, ◌<◌, ◌≤◌, Bool, true, false, nat_eq, List, [], ◌∷◌, ◌++◌, length, get_or, map, refl, sym, ap, subst, arith}
use Rattle.std.specs.Prelude.{◌≢◌, Contains, nat_lt, slice_index, sum_by}
use Rattle.std.specs.List.{range_with_len}
use Rattle.std.proofs.lemmas.List.{get_or_default, get_or_past, map-append}
use Rattle.regalloc2_function.specs.FunctionValue.{FunctionValue, BlockValue, block_at, no_block, EachBlock}
use Rattle.regalloc2_function.specs.WellFormed.{IsFramed, times_in, ways_into, NotCriticalAt, PredecessorsAt}
use Rattle.regalloc2_serialize.specs.TableFunction.Draft.{DraftValue, draft_at}
use Rattle.regalloc2_serialize.specs.Rewrite.Laid.{HasDrafts}
use Rattle.regalloc2_serialize.specs.Rewrite.SplitEdges.{entries_into, is_critical, jump_on, kept_block, number_on, split_succ}
use Rattle.regalloc2_serialize.proofs.RewriteLemmas.EdgeLists.{edge, range-more}
use Rattle.regalloc2_serialize.proofs.RewriteLemmas.LaidLaws.{count-laid, laid-at}
use Rattle.regalloc2_serialize.proofs.RewriteLemmas.Numbers.{is-below, is-other, is-past, is-same, not-same}
use Rattle.regalloc2_serialize.proofs.RewriteLemmas.PredCounts.{preds-agree}
use Rattle.regalloc2_serialize.proofs.RewriteLemmas.SplitDrafts.{all, all-many, count-kept, draft-between, draft-kept, edge-number, number-apart, number-within, on-edge, succ-plain, succ-split}
use Rattle.regalloc2_serialize.proofs.RewriteLemmas.WayCounts.{one, one-other, one-same, preds-many, times-cons, times-push}

map-more : (h : ℕ → ℕ) (k : ℕ) → map h (range_with_len 0 (suc k)) ≡ map h (range_with_len 0 k) ++ h k ∷ []
map-more h k = ap (map h) (range-more k) ∙ map-append h (range_with_len 0 k) (k ∷ [])

range-none : (t : ℕ) (h : ℕ → ℕ) (n : ℕ) → ((i : ℕ) → i < n → h i ≢ t) → times_in t (map h (range_with_len 0 n)) ≡ 0
range-none t h zero apart = refl
range-none t h (suc n) apart =
    ap (times_in t) (map-more h n) ∙ times-push t (map h (range_with_len 0 n)) (h n)
    ∙ omega (arith, range-none t h n (λ i less. apart i (omega (arith, less))), one-other t (h n) (apart n (omega arith)))

range-step : (t : ℕ) (h : ℕ → ℕ) (k n : ℕ) → k < suc n → h k ≡ t → ((i : ℕ) → i < suc n → h i ≡ t → i ≡ k) →
    (k < n → times_in t (map h (range_with_len 0 n)) ≡ 1) → times_in t (map h (range_with_len 0 (suc n))) ≡ 1
range-step t h k n less is only rest =
    ap (times_in t) (map-more h n) ∙ times-push t (map h (range_with_len 0 n)) (h n) ∙ by (nat_lt k n) refl
  where
    by : (c : Bool) → nat_lt k n ≡ c → times_in t (map h (range_with_len 0 n)) + one t (h n) ≡ 1
    by true e =
        let lower : k < n = is-below k n e in
        let none : one t (h n) ≡ 0 = one-other t (h n) (λ same. omega (arith, only n (omega arith) same, lower)) in
        omega (arith, rest lower, none)
    by false e =
        let up : n ≤ k = is-past k n e in
        let last : k ≡ n = omega (arith, up, less) in
        let none : times_in t (map h (range_with_len 0 n)) ≡ 0 =
        range-none t h n (λ i lower same. omega (arith, only i (omega (arith, lower)) same, last, lower)) in
        let some : one t (h n) ≡ 1 = one-same t (h n) (ap h (sym last) ∙ is) in
        omega (arith, none, some)

range-one : (t : ℕ) (h : ℕ → ℕ) (k n : ℕ) → k < n → h k ≡ t → ((i : ℕ) → i < n → h i ≡ t → i ≡ k) → times_in t (map h (range_with_len 0 n)) ≡ 1
range-one t h k zero less is only = absurd (omega arith)
range-one t h k (suc n) less is only =
    range-step t h k n less is only (λ lower. range-one t h k n lower is (λ i inside same. only i (omega (arith, inside)) same))

same-if : (t x : ℕ) → 1 ≤ one t x → x ≡ t
same-if t x some = by (nat_eq x t) refl
  where
    by : (c : Bool) → nat_eq x t ≡ c → x ≡ t
    by true e = is-same x t e
    by false e = let none : one t x ≡ 0 = rw e refl in absurd (omega (arith, some, none))

-- a list that has one number once, and no other
only-one : (b : ℕ) (xs : List ℕ) → ((p : ℕ) → times_in p xs ≡ one b p) → xs ≡ b ∷ []
only-one b [] counts = absurd (omega (arith, counts b, one-same b b refl))
only-one b (x ∷ []) counts =
    let same : x ≡ b = same-if b x (omega (arith, counts x, times-cons x x [], one-same x x refl)) in
    ap (λ (y : ℕ). y ∷ []) same
only-one b (x ∷ y ∷ zs) counts =
    let at-x : times_in x (x ∷ y ∷ zs) ≡ one x x + (one x y + times_in x zs) =
    times-cons x x (y ∷ zs) ∙ ap (λ (n : ℕ). one x x + n) (times-cons x y zs) in
    let at-y : times_in y (x ∷ y ∷ zs) ≡ one y x + (one y y + times_in y zs) =
    times-cons y x (y ∷ zs) ∙ ap (λ (n : ℕ). one y x + n) (times-cons y y zs) in
    let first : x ≡ b = same-if b x (omega (arith, counts x, at-x, one-same x x refl)) in
    let second : y ≡ b = same-if b y (omega (arith, counts y, at-y, one-same y y refl)) in
    let again : one x y ≡ 1 = one-same x y (second ∙ sym first) in
    absurd (omega (arith, counts x, at-x, one-same x x refl, again, one-same b x first))

-- a number that is counted is in the list
times-at : (t : ℕ) (xs : List ℕ) → 1 ≤ times_in t xs → Contains xs t
times-at t [] some = absurd (omega (arith, some))
times-at t (x ∷ xs) some = by (nat_eq x t) refl (times-at t xs)
  where
    by : (c : Bool) → nat_eq x t ≡ c → (1 ≤ times_in t xs → Contains xs t) → Contains (x ∷ xs) t
    by true e rest = let same : x ≡ t = is-same x t e in (0, omega arith, same)
    by false e rest =
        let none : one t x ≡ 0 = rw e refl in
        let there = rest (omega (arith, some, none, times-cons t x xs)) in
        (suc there.0, omega (arith, there.1), there.2)

times-member : (xs : List ℕ) (j d : ℕ) → j < length xs → 1 ≤ times_in (get_or xs j d) xs
times-member [] j d less = absurd (omega (arith, less))
times-member (x ∷ xs) zero d less = omega (arith, times-cons x x xs, one-same x x refl)
times-member (x ∷ xs) (suc j) d less = omega (arith, times-cons (get_or xs j d) x xs, times-member xs j d (omega (arith, less)))

-- at most one successor, and an old block
record HasOldEnd (f : FunctionValue) (succs : List ℕ) : Type 0 where
  short : length succs ≤ 1
  old : (t : ℕ) → length f.blocks ≤ t → times_in t succs ≡ 0

module _ (f : FunctionValue) (framed : IsFramed f) (g : FunctionValue) (h : HasDrafts (all f) g) where
  many : length g.blocks ≡ length (all f)
  many = count-laid (all f) g h

  pub agree : EachBlock g (PredecessorsAt g)
  agree = preds-agree (all f) g h

  succs-kept : (p : ℕ) → p < length f.blocks → (block_at g p).succs ≡ (kept_block f p).succs
  succs-kept p less =
      (laid-at (all f) g h p (omega (arith, all-many f, less))).succs ∙ ap (λ (d : DraftValue). d.succs) (draft-kept f p less)

  old-end : (b k : ℕ) → b < length f.blocks → k < length (block_at f b).succs → HasOldEnd f (slice_index (block_at f b).succs k ∷ [])
  old-end b k less within =
      let to : ℕ = slice_index (block_at f b).succs k in
      record {
        short = omega arith;
        old = λ t from. times-cons t to [] ∙ omega (arith, one-other t to (λ same. omega (arith, same, from, framed.successors.1 b less k 0 within)));
      }

  new-end : (p : ℕ) → length f.blocks ≤ p → HasOldEnd f (block_at g p).succs
  new-end p from = by (nat_lt p (length (all f))) refl
    where
      by : (c : Bool) → nat_lt p (length (all f)) ≡ c → HasOldEnd f (block_at g p).succs
      by true e =
          let less : p < length (all f) = is-below p (length (all f)) e in
          let i = on-edge f p from less in
          let at : draft_at (all f) p ≡ jump_on f (edge i.from i.position) =
          ap (draft_at (all f)) (sym (edge-number f p from i)) ∙ draft-between f i.from i.position i.block i.successor i.critical in
          let succs : (block_at g p).succs ≡ slice_index (block_at f i.from).succs i.position ∷ [] =
          (laid-at (all f) g h p less).succs ∙ ap (λ (d : DraftValue). d.succs) at in
          subst (HasOldEnd f) (sym succs) (old-end i.from i.position i.block i.successor)
      by false e =
          let past : length (all f) ≤ p = is-past p (length (all f)) e in
          let absent : block_at g p ≡ no_block = get_or_past g.blocks p no_block (omega (arith, many, past)) in
          rw absent (record { short = omega arith; old = λ t above. refl })

  -- a new block is entered on its edge only
  entered : (b k p : ℕ) → b < length f.blocks → k < length (block_at f b).succs → is_critical f b k ≡ true →
      times_in (number_on f b k) (block_at g p).succs ≡ one b p
  entered b k p less within critical = by (nat_lt p (length f.blocks)) refl (nat_eq p b) refl
    where
      n : ℕ
      n = number_on f b k

      reaches : (i : ℕ) → p < length f.blocks → i < length (block_at f p).succs → (c : Bool) → is_critical f p i ≡ c → split_succ f p i ≡ n →
          (p ≡ b) × (i ≡ k)
      reaches i below inside true e same =
          let to : split_succ f p i ≡ number_on f p i = rw e refl in
          number-apart f p i b k below inside e less within critical (sym to ∙ same)
      reaches i below inside false e same =
          let to : split_succ f p i ≡ slice_index (block_at f p).succs i = rw e refl in
          absurd (omega (arith, framed.successors.1 p below i 0 inside, to, same))

      by : (c : Bool) → nat_lt p (length f.blocks) ≡ c → (d : Bool) → nat_eq p b ≡ d → times_in n (block_at g p).succs ≡ one b p
      by true e true same =
          let here : p ≡ b = is-same p b same in
          let to : split_succ f b k ≡ n = rw critical refl in
          let counted : times_in n (kept_block f b).succs ≡ 1 =
          range-one n (split_succ f b) k (length (block_at f b).succs) within to
          (λ i inside is. (subst (λ (q : ℕ). (i : ℕ) → i < length (block_at f q).succs → split_succ f q i ≡ n → i ≡ k) here
          (λ i inside is. (reaches i (omega (arith, here, less)) inside (is_critical f p i) refl is).1)) i inside is) in
          let once : one b p ≡ 1 = one-same b p here in
          ap (times_in n) (succs-kept p (omega (arith, here, less))) ∙ ap (λ (q : ℕ). times_in n (kept_block f q).succs) here ∙ counted ∙ sym once
      by true e false apart =
          let below : p < length f.blocks = is-below p (length f.blocks) e in
          let other : p ≢ b = is-other p b apart in
          ap (times_in n) (succs-kept p below)
          ∙ range-none n (split_succ f p) (length (block_at f p).succs) (λ i inside is. other (reaches i below inside (is_critical f p i) refl is).0)
          ∙ sym (one-other b p other)
      by false e d same =
          let past : length f.blocks ≤ p = is-past p (length f.blocks) e in
          (new-end p past).old n (omega arith) ∙ sym (one-other b p (λ here. omega (arith, here, less, past)))

  -- a new block's predecessor is the one on its edge
  pub single : (b k : ℕ) → b < length f.blocks → k < length (block_at f b).succs → is_critical f b k ≡ true →
      (block_at g (number_on f b k)).preds ≡ b ∷ []
  single b k less within critical =
      let below : number_on f b k < length g.blocks = omega (arith, many, number-within f b k less within critical) in
      only-one b (block_at g (number_on f b k)).preds (λ p. agree (number_on f b k) below p ∙ entered b k p less within critical)

  module _ (entry : g.entry ≡ f.entry) where
    ways-same : (t : ℕ) → t < length f.blocks → ways_into g t ≡ entries_into f t
    ways-same t less =
        let counted : length (block_at g t).preds ≡ sum_by (λ (b : BlockValue). times_in t b.succs) f.blocks =
        ap length (h.preds t (omega (arith, all-many f, less))) ∙ preds-many f framed t less in
        rw (counted, entry) refl

    short-from : (n p : ℕ) → n < length g.blocks → 1 < ways_into g n → 1 ≤ times_in n (block_at g p).succs → p < length f.blocks →
        length (block_at f p).succs ≤ 1
    short-from n p less ways listed below = by (nat_lt 1 (length (block_at f p).succs)) refl
      where
        has : Contains (kept_block f p).succs n
        has = subst (λ (ss : List ℕ). Contains ss n) (succs-kept p below) (times-at n (block_at g p).succs listed)

        i : ℕ
        i = has.0

        inside : i < length (block_at f p).succs
        inside = omega (arith, has.1, count-kept f p)

        at : slice_index (kept_block f p).succs i ≡ n
        at = get_or_default (kept_block f p).succs i 0 n has.1 ∙ has.2

        never : nat_lt 1 (length (block_at f p).succs) ≡ true → (c : Bool) → is_critical f p i ≡ c → ⊥
        never several true e =
            let is : number_on f p i ≡ n = sym (succ-split f p i inside e) ∙ at in
            let alone : length (block_at g n).preds ≡ 1 = ap (λ (m : ℕ). length (block_at g m).preds) (sym is) ∙ ap length (single p i below inside e) in
            let start : nat_eq n g.entry ≡ false = not-same n g.entry (λ same. omega (arith, same, is, entry, framed.successors.0)) in
            let counted : ways_into g n ≡ 1 + 0 = rw (alone, start) refl in
            omega (arith, ways, counted)
        never several false e =
            let t : ℕ = slice_index (block_at f p).succs i in
            let to : t ≡ n = sym (succ-plain f p i inside e) ∙ at in
            let one-way : nat_lt 1 (entries_into f t) ≡ false = rw several at e in
            let few : entries_into f t ≤ 1 = is-past 1 (entries_into f t) one-way in
            let same : ways_into g t ≡ entries_into f t = ways-same t (framed.successors.1 p below i 0 inside) in
            let counted : ways_into g n ≡ ways_into g t = ap (ways_into g) (sym to) in
            omega (arith, ways, counted, same, few)

        by : (c : Bool) → nat_lt 1 (length (block_at f p).succs) ≡ c → length (block_at f p).succs ≤ 1
        by true e = absurd (never e (is_critical f p i) refl)
        by false e = is-past 1 (length (block_at f p).succs) e

    -- no edge is critical
    pub no-critical : EachBlock g (NotCriticalAt g)
    no-critical n less ways j d inside = by (nat_lt p (length f.blocks)) refl
      where
        p : ℕ
        p = get_or (block_at g n).preds j d

        listed : 1 ≤ times_in n (block_at g p).succs
        listed = omega (arith, times-member (block_at g n).preds j d inside, agree n less p)

        by : (c : Bool) → nat_lt p (length f.blocks) ≡ c → length (block_at g p).succs ≤ 1
        by true e =
            let below : p < length f.blocks = is-below p (length f.blocks) e in
            omega (arith, ap length (succs-kept p below), count-kept f p, short-from n p less ways listed below)
        by false e =
            let past : length f.blocks ≤ p = is-past p (length f.blocks) e in
            (new-end p past).short
