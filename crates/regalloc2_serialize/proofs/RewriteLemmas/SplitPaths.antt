-- A function whose critical edges are split has the same paths, with a step more on each split edge.
use Rattle.std.proofs.Common.{ℕ, ◌≡◌, ◌∙◌, ◌+◌, ◌<◌, ◌≤◌, ◌⊎◌, inl, inr, Bool, true, false, cond, nat_eq, List, [], ◌∷◌, length, refl, sym, ap, subst, arith}
use Rattle.std.specs.Prelude.{Option, None, Some, slice_index}
use Rattle.std.specs.Option.{option_map}
use Rattle.regalloc2_index.specs.Range.{Span}
use Rattle.regalloc2_names.specs.Register.{VirtualRegister, is_vreg}
use Rattle.regalloc2_names.specs.Operand.{OperandValue, is_def}
use Rattle.regalloc2_function.specs.FunctionValue.{FunctionValue, InstValue, block_at, inst_at}
use Rattle.regalloc2_semantics.specs.Runs.{Way, Onward, ToSuccessor, Location, first_of, next_of, end_of, HasWay, IsPath, last_inst, Stamp, write_at}
use Rattle.regalloc2_semantics.specs.Runs.{after_defs, arguments_at, assigned, over_edge, passed, source_after, source_before}
use Rattle.regalloc2_function.specs.WellFormed.{IsFramed}
use Rattle.regalloc2_serialize.specs.Rewrite.SplitEdges.{HasSplitPaths, IsBetween, IsKeptBlock, is_critical, split_stamp, split_step, split_path}
use Rattle.regalloc2_serialize.proofs.RewriteLemmas.Numbers.{not-same, yes-same}
use Rattle.regalloc2_serialize.proofs.RewriteLemmas.SplitInsts.{ends-within}
use Rattle.regalloc2_semantics.specs.Laws.{Source}

-- a structurally valid function, and one with its blocks and others on its critical edges
pub record HasSplitBlocks (f g : FunctionValue) : Type 0 where
  pub framed : IsFramed f
  pub kept : (b : ℕ) → b < length f.blocks → IsKeptBlock f b g
  pub insts : (i : ℕ) → i < length f.insts → inst_at g i ≡ inst_at f i
  pub entry : g.entry ≡ f.entry

-- a write of a step below a bound, if any
abbrev pub IsUnder : ℕ → Option Stamp → Type 0
IsUnder bound None = Unit {0}
IsUnder bound (Some s) = s.step < bound

-- maps with the same writes, by other names, which are of steps below a bound
pub record Agree (bound : ℕ) (move : Stamp → Stamp) (m n : Source) : Type 0 where
  pub same : (q : VirtualRegister) → m q ≡ option_map move (n q)
  pub under : (q : VirtualRegister) → IsUnder bound (n q)

module _ (bound : ℕ) (move : Stamp → Stamp) where
  picks : (b : Bool) (x y k l : Option Stamp) → x ≡ option_map move y → k ≡ option_map move l → cond b x k ≡ option_map move (cond b y l)
  picks true x y k l e d = e
  picks false x y k l e d = d

  picks-under : (b : Bool) (y l : Option Stamp) → IsUnder bound y → IsUnder bound l → IsUnder bound (cond b y l)
  picks-under true y l e d = e
  picks-under false y l e d = d

  assigned-agree : (m n : Source) (v : VirtualRegister) (x y : Option Stamp) → x ≡ option_map move y → IsUnder bound y → Agree bound move m n →
      Agree bound move (assigned m v x) (assigned n v y)
  assigned-agree m n v x y e small agree = record {
    same = λ q. picks (is_vreg v q) x y (m q) (n q) e (agree.same q);
    under = λ q. picks-under (is_vreg v q) y (n q) small (agree.under q);
  }

  chosen : (b : Bool) (m n k l : Source) → Agree bound move m n → Agree bound move k l → Agree bound move (cond b m k) (cond b n l)
  chosen true m n k l e d = e
  chosen false m n k l e d = d

  -- definitions of steps that are named so keep maps in agreement
  pub after_defs-agree : (step there k : ℕ) (os : List OperandValue) (m n : Source) →
      ((k : ℕ) → move (record { step = step; operand = k }) ≡ record { step = there; operand = k }) → step < bound → Agree bound move m n →
      Agree bound move (after_defs (write_at there) k os m) (after_defs (write_at step) k os n)
  unfolding after_defs
  after_defs-agree step there k [] m n named small agree = agree
  after_defs-agree step there k (o ∷ os) m n named small agree =
      after_defs-agree step there (k + 1) os _ _ named small
      (chosen (is_def o.kind) _ _ m n (assigned-agree m n o.vreg _ _ (ap (λ (s : Stamp). Some s) (sym (named k))) small agree) agree)

  -- passing arguments keeps maps in agreement
  pub passed-agree : (ps xs : List VirtualRegister) (m n k l : Source) → Agree bound move m n → Agree bound move k l →
      Agree bound move (passed ps xs m k) (passed ps xs n l)
  unfolding passed
  passed-agree [] xs m n k l e d = d
  passed-agree (p ∷ ps) [] m n k l e d = d
  passed-agree (p ∷ ps) (x ∷ xs) m n k l e d =
      passed-agree ps xs m n _ _ e (assigned-agree k l p (m x) (n x) (e.same x) (e.under x) d)

change-one : (bound higher : ℕ) (move other : Stamp → Stamp) (x y : Option Stamp) → bound ≤ higher → ((s : Stamp) → s.step < bound → move s ≡ other s) →
    x ≡ option_map move y → IsUnder bound y → (x ≡ option_map other y) × IsUnder higher y
change-one bound higher move other x None up alike same under = (same, tt)
change-one bound higher move other x (Some s) up alike same under =
    (same ∙ ap (λ (r : Stamp). Some r) (alike s under), omega (arith, up, under))

-- other names that are the same below the bound
change : (bound higher : ℕ) (move other : Stamp → Stamp) (m n : Source) → bound ≤ higher → ((s : Stamp) → s.step < bound → move s ≡ other s) →
    Agree bound move m n → Agree higher other m n
change bound higher move other m n up alike agree = record {
  same = λ q. (change-one bound higher move other (m q) (n q) up alike (agree.same q) (agree.under q)).0;
  under = λ q. (change-one bound higher move other (m q) (n q) up alike (agree.same q) (agree.under q)).1;
}

-- a location in its block
record IsIn (f : FunctionValue) (l : Location) : Type 0 where
  block : l.block < length f.blocks
  first : (block_at f l.block).range.first ≤ l.inst
  end : l.inst < (block_at f l.block).range.end

module _ (f g : FunctionValue) (h : HasSplitBlocks f g) where
  first-in : (b : ℕ) → b < length f.blocks → IsIn f (first_of f b)
  first-in b less = record { block = less; first = omega arith; end = (h.framed.follow b less).0 }

  first-same : (b : ℕ) → b < length f.blocks → first_of g b ≡ first_of f b
  first-same b less = ap (λ (r : Span). record { block = b; inst = r.first }) (h.kept b less).range

  next-in : (l : Location) (w : Way) → IsIn f l → HasWay f l w → IsIn f (next_of f l w)
  next-in l Onward is way = record { block = is.block; first = omega (arith, is.first); end = way }
  next-in l (ToSuccessor k) is way = first-in (slice_index (block_at f l.block).succs k) (h.framed.successors.1 l.block is.block k 0 way.1)

  -- a path of the function over split edges, with what it does last
  record Goes (ws : List Way) : Type 0 where
    is : IsIn f (end_of f ws)
    path : IsPath g (split_path f ws)
    same : end_of g (split_path f ws) ≡ end_of f ws

  onward : (ws : List Way) → Goes ws → HasWay f (end_of f ws) Onward → Goes (Onward ∷ ws)
  onward ws goes way =
      let l : Location = end_of f ws in
      let range = (h.kept l.block goes.is.block).range in
      let there : HasWay g l Onward = rw range way in
      record {
        is = next-in l Onward goes.is way;
        path = (goes.path, subst (λ m. HasWay g m Onward) (sym goes.same) there);
        same = ap (λ (m : Location). next_of g m Onward) goes.same;
      }

  -- an edge that isn't critical is taken as it is; a critical one through its block
  over : (ws : List Way) (k : ℕ) → Goes ws → HasWay f (end_of f ws) (ToSuccessor k) → Goes (ToSuccessor k ∷ ws)
  over ws k goes way = by (is_critical f (end_of f ws).block k) refl
    where
      l : Location
      l = end_of f ws

      t : ℕ
      t = slice_index (block_at f l.block).succs k

      t-less : t < length f.blocks
      t-less = h.framed.successors.1 l.block goes.is.block k 0 way.1

      leaves : HasWay g l (ToSuccessor k)
      leaves = let kept = h.kept l.block goes.is.block in (rw kept.range way.0, omega (arith, kept.count, way.1))

      by : (c : Bool) → is_critical f l.block k ≡ c → Goes (ToSuccessor k ∷ ws)
      by false e =
          let to : slice_index (block_at g l.block).succs k ≡ t = ((h.kept l.block goes.is.block).succs k way.1 e).0 in
          let ways : split_path f (ToSuccessor k ∷ ws) ≡ ToSuccessor k ∷ split_path f ws = rw e refl in
          record {
            is = next-in l (ToSuccessor k) goes.is way;
            path = rw ways (goes.path, subst (λ m. HasWay g m (ToSuccessor k)) (sym goes.same) leaves);
            same = rw ways (ap (λ (m : Location). next_of g m (ToSuccessor k)) goes.same ∙ ap (first_of g) to ∙ first-same t t-less);
          }
      by true e =
          let n : ℕ = slice_index (block_at g l.block).succs k in
          let between : IsBetween f l.block k g n = ((h.kept l.block goes.is.block).split k way.1 e).0 in
          let ways : split_path f (ToSuccessor k ∷ ws) ≡ ToSuccessor 0 ∷ ToSuccessor k ∷ split_path f ws = rw e refl in
          let at : end_of g (ToSuccessor k ∷ split_path f ws) ≡ first_of g n = ap (λ (m : Location). next_of g m (ToSuccessor k)) goes.same in
          let jump : HasWay g (first_of g n) (ToSuccessor 0) = (between.long, rw between.succs (omega arith)) in
          let to : slice_index (block_at g n).succs 0 ≡ t = ap (λ (ss : List ℕ). slice_index ss 0) between.succs in
          record {
            is = next-in l (ToSuccessor k) goes.is way;
            path = rw ways (
              (goes.path, subst (λ m. HasWay g m (ToSuccessor k)) (sym goes.same) leaves),
              subst (λ m. HasWay g m (ToSuccessor 0)) (sym at) jump,
            );
            same = rw ways (ap (λ (m : Location). next_of g m (ToSuccessor 0)) at ∙ ap (first_of g) to ∙ first-same t t-less);
          }

  -- each path goes through
  goes : (ws : List Way) → IsPath f ws → Goes ws
  goes [] path = record {
    is = first-in f.entry h.framed.successors.0;
    path = tt;
    same = ap (first_of g) h.entry ∙ first-same f.entry h.framed.successors.0;
  }
  goes (Onward ∷ ws) path = onward ws (goes ws path.0) path.1
  goes (ToSuccessor k ∷ ws) path = over ws k (goes ws path.0) path.1

  -- a path of the other function that is one of this function over split edges
  record AtBlock (vs : List Way) : Type 0 where
    ws : List Way
    path : IsPath f ws
    same : vs ≡ split_path f ws

  -- a path of the other function that ends at a new block
  record AtJump (vs : List Way) : Type 0 where
    ws : List Way
    k : ℕ
    path : IsPath f ws
    way : HasWay f (end_of f ws) (ToSuccessor k)
    critical : is_critical f (end_of f ws).block k ≡ true
    same : vs ≡ ToSuccessor k ∷ split_path f ws

  at-end : (vs : List Way) (b : AtBlock vs) → end_of g vs ≡ end_of f b.ws
  at-end vs b = ap (end_of g) b.same ∙ (goes b.ws b.path).same

  back : (l : Location) (w : Way) → IsIn f l → HasWay g l w → HasWay f l w
  back l Onward is way =
      let end = ap (λ (r : Span). r.end) (h.kept l.block is.block).range in
      omega (arith, way, end)
  back l (ToSuccessor k) is way =
      let end = ap (λ (r : Span). r.end) (h.kept l.block is.block).range in
      (omega (arith, way.0, end), omega (arith, way.1, (h.kept l.block is.block).count))

  between-at : (vs : List Way) (j : AtJump vs) → IsBetween f (end_of f j.ws).block j.k g (slice_index (block_at g (end_of f j.ws).block).succs j.k)
  between-at vs j = ((h.kept (end_of f j.ws).block (goes j.ws j.path).is.block).split j.k j.way.1 j.critical).0

  jump-end : (vs : List Way) (j : AtJump vs) → end_of g vs ≡ first_of g (slice_index (block_at g (end_of f j.ws).block).succs j.k)
  jump-end vs j = ap (end_of g) j.same ∙ ap (λ (m : Location). next_of g m (ToSuccessor j.k)) (goes j.ws j.path).same

  leaves : (vs : List Way) (k : ℕ) (b : AtBlock vs) → HasWay f (end_of f b.ws) (ToSuccessor k) → (c : Bool) → is_critical f (end_of f b.ws).block k ≡ c →
      AtBlock (ToSuccessor k ∷ vs) ⊎ AtJump (ToSuccessor k ∷ vs)
  leaves vs k b way true e =
      inr (record { ws = b.ws; k = k; path = b.path; way = way; critical = e; same = ap (λ xs. ToSuccessor k ∷ xs) b.same })
  leaves vs k b way false e =
      let ways : split_path f (ToSuccessor k ∷ b.ws) ≡ ToSuccessor k ∷ split_path f b.ws = rw e refl in
      inl (record { ws = ToSuccessor k ∷ b.ws; path = (b.path, way); same = ap (λ xs. ToSuccessor k ∷ xs) b.same ∙ sym ways })

  farther : (vs : List Way) (w : Way) → AtBlock vs ⊎ AtJump vs → HasWay g (end_of g vs) w → AtBlock (w ∷ vs) ⊎ AtJump (w ∷ vs)
  farther vs Onward (inl b) way =
      let there : HasWay g (end_of f b.ws) Onward = subst (λ (l : Location). HasWay g l Onward) (at-end vs b) way in
      inl (record {
        ws = Onward ∷ b.ws;
        path = (b.path, back (end_of f b.ws) Onward (goes b.ws b.path).is there);
        same = ap (λ xs. Onward ∷ xs) b.same;
      })
  farther vs (ToSuccessor k) (inl b) way =
      let there : HasWay g (end_of f b.ws) (ToSuccessor k) = subst (λ (l : Location). HasWay g l (ToSuccessor k)) (at-end vs b) way in
      leaves vs k b (back (end_of f b.ws) (ToSuccessor k) (goes b.ws b.path).is there) (is_critical f (end_of f b.ws).block k) refl
  farther vs Onward (inr j) way =
      let n : ℕ = slice_index (block_at g (end_of f j.ws).block).succs j.k in
      let there : HasWay g (first_of g n) Onward = subst (λ (l : Location). HasWay g l Onward) (jump-end vs j) way in
      absurd (omega (arith, there, (between-at vs j).long))
  farther vs (ToSuccessor i) (inr j) way =
      let n : ℕ = slice_index (block_at g (end_of f j.ws).block).succs j.k in
      let there : HasWay g (first_of g n) (ToSuccessor i) = subst (λ (l : Location). HasWay g l (ToSuccessor i)) (jump-end vs j) way in
      let one : length (block_at g n).succs ≡ 1 = ap length (between-at vs j).succs in
      let zero-th : i ≡ 0 = omega (arith, there.1, one) in
      let ways : split_path f (ToSuccessor j.k ∷ j.ws) ≡ ToSuccessor 0 ∷ ToSuccessor j.k ∷ split_path f j.ws = rw j.critical refl in
      inl (record {
        ws = ToSuccessor j.k ∷ j.ws;
        path = (j.path, j.way);
        same = ap (λ (m : ℕ). ToSuccessor m ∷ vs) zero-th ∙ ap (λ xs. ToSuccessor 0 ∷ xs) j.same ∙ sym ways;
      })

  comes : (vs : List Way) → IsPath g vs → AtBlock vs ⊎ AtJump vs
  comes [] path = inl (record { ws = []; path = tt; same = refl })
  comes (w ∷ vs) path = farther vs w (comes vs path.0) path.1

  only-from : (vs : List Way) → AtBlock vs ⊎ AtJump vs → (end_of g vs).block < length f.blocks → (ws : List Way) × IsPath f ws × (vs ≡ split_path f ws)
  only-from vs (inl b) less = (b.ws, b.path, b.same)
  only-from vs (inr j) less =
      let at = ap (λ (l : Location). l.block) (jump-end vs j) in
      absurd (omega (arith, less, at, (between-at vs j).new))

  over-plain : (ws : List Way) (k : ℕ) (m : Source) → (e : Goes ws) → HasWay f (end_of f ws) (ToSuccessor k) → is_critical f (end_of f ws).block k ≡ false →
      over_edge g (end_of g (split_path f ws)) (ToSuccessor k) m ≡ over_edge f (end_of f ws) (ToSuccessor k) m
  unfolding over_edge
  over-plain ws k m e way plain =
      let b : ℕ = (end_of f ws).block in
      let t : ℕ = slice_index (block_at f b).succs k in
      let kept = (h.kept b e.is.block).succs k way.1 plain in
      let params : (block_at g (slice_index (block_at g b).succs k)).params ≡ (block_at f t).params =
      ap (λ (c : ℕ). (block_at g c).params) kept.0 ∙ (h.kept t (h.framed.successors.1 b e.is.block k 0 way.1)).params in
      ap (λ (l : Location). passed (block_at g (slice_index (block_at g l.block).succs k)).params (arguments_at g l.block k) m m) e.same
      ∙ ap (λ ps. passed ps (arguments_at g b k) m m) params ∙ ap (λ xs. passed (block_at f t).params xs m m) kept.1

  -- over a split edge, the jump passes what the edge does
  over-split : (ws : List Way) (k : ℕ) (m : Source) → (e : Goes ws) → HasWay f (end_of f ws) (ToSuccessor k) → is_critical f (end_of f ws).block k ≡ true →
      (s : ℕ) →
      over_edge g (next_of g (end_of g (split_path f ws)) (ToSuccessor k)) (ToSuccessor 0)
      (after_defs (write_at s) 0 (last_inst g (ToSuccessor k ∷ split_path f ws)).operands (over_edge g (end_of g (split_path f ws)) (ToSuccessor k) m))
      ≡ over_edge f (end_of f ws) (ToSuccessor k) m
  unfolding over_edge passed after_defs
  over-split ws k m e way critical s =
      let b : ℕ = (end_of f ws).block in
      let t : ℕ = slice_index (block_at f b).succs k in
      let n : ℕ = slice_index (block_at g b).succs k in
      let between : IsBetween f b k g n = ((h.kept b e.is.block).split k way.1 critical).0 in
      let at : next_of g (end_of g (split_path f ws)) (ToSuccessor k) ≡ first_of g n = ap (λ (l : Location). next_of g l (ToSuccessor k)) e.same in
      let first : over_edge g (end_of g (split_path f ws)) (ToSuccessor k) m ≡ m =
      ap (λ (l : Location). passed (block_at g (slice_index (block_at g l.block).succs k)).params (arguments_at g l.block k) m m) e.same
      ∙ ap (λ ps. passed ps (arguments_at g b k) m m) between.params in
      let operands : (last_inst g (ToSuccessor k ∷ split_path f ws)).operands ≡ [] = ap (λ (l : Location). (inst_at g l.inst).operands) at ∙ between.jump.operands in
      let to : slice_index (block_at g n).succs 0 ≡ t = ap (λ (ss : List ℕ). slice_index ss 0) between.succs in
      let params : (block_at g (slice_index (block_at g n).succs 0)).params ≡ (block_at f t).params =
      ap (λ (c : ℕ). (block_at g c).params) to ∙ (h.kept t (h.framed.successors.1 b e.is.block k 0 way.1)).params in
      ap (λ x. over_edge g (next_of g (end_of g (split_path f ws)) (ToSuccessor k)) (ToSuccessor 0)
      (after_defs (write_at s) 0 (last_inst g (ToSuccessor k ∷ split_path f ws)).operands x)) first
      ∙ ap (λ os. over_edge g (next_of g (end_of g (split_path f ws)) (ToSuccessor k)) (ToSuccessor 0) (after_defs (write_at s) 0 os m)) operands
      ∙ ap (λ (l : Location). over_edge g l (ToSuccessor 0) m) at
      ∙ ap (λ ps. passed ps (arguments_at g n 0) m m) params ∙ ap (λ xs. passed (block_at f t).params xs m m) between.arguments

  last-same : (ws : List Way) → Goes ws → last_inst g (split_path f ws) ≡ last_inst f ws
  last-same ws e =
      let l : Location = end_of f ws in
      ap (λ (m : Location). inst_at g m.inst) e.same ∙ h.insts l.inst (omega (arith, e.is.end, ends-within f h.framed.follow l.block e.is.block))

  last-step : (ws : List Way) → split_step f ws (length ws) ≡ length (split_path f ws)
  last-step [] = refl
  last-step (w ∷ ws) = let e : nat_eq (length (w ∷ ws)) (length (w ∷ ws)) ≡ true = yes-same (length (w ∷ ws)) in rw e refl

  earlier-step : (w : Way) (ws : List Way) (s : ℕ) → s < length (w ∷ ws) → split_step f (w ∷ ws) s ≡ split_step f ws s
  earlier-step w ws s less =
      let e : nat_eq s (length (w ∷ ws)) ≡ false = not-same s (length (w ∷ ws)) (λ same. omega (arith, less, same)) in rw e refl

  after : (w : Way) (ws : List Way) → Goes ws →
      Agree (length ws) (split_stamp f ws) (source_before g (split_path f ws)) (source_before f ws) →
      Agree (length (w ∷ ws)) (split_stamp f (w ∷ ws)) (source_after g (split_path f ws)) (source_after f ws)
  after w ws e before =
      let next : Stamp → Stamp = split_stamp f (w ∷ ws) in
      let moved : Agree (length (w ∷ ws)) next (source_before g (split_path f ws)) (source_before f ws) =
      change (length ws) (length (w ∷ ws)) (split_stamp f ws) next (source_before g (split_path f ws)) (source_before f ws) (omega arith)
      (λ s less. ap (λ (n : ℕ). record { step = n; operand = s.operand }) (sym (earlier-step w ws s.step (omega (arith, less))))) before in
      let named : (k : ℕ) → next (record { step = length ws; operand = k }) ≡ record { step = length (split_path f ws); operand = k } =
      λ k. ap (λ (n : ℕ). record { step = n; operand = k }) (earlier-step w ws (length ws) (omega arith) ∙ last-step ws) in
      subst (λ (i : InstValue). Agree (length (w ∷ ws)) next (after_defs (write_at (length (split_path f ws))) 0 i.operands (source_before g (split_path f ws))) (source_after f ws))
      (sym (last-same ws e))
      (after_defs-agree (length (w ∷ ws)) next (length ws) (length (split_path f ws)) 0 (last_inst f ws).operands (source_before g (split_path f ws))
      (source_before f ws) named (omega arith) moved)

  edge-agree : (bound : ℕ) (ws : List Way) (k : ℕ) (move : Stamp → Stamp) (m n : Source) → Agree bound move m n →
      Agree bound move (over_edge f (end_of f ws) (ToSuccessor k) m) (over_edge f (end_of f ws) (ToSuccessor k) n)
  unfolding over_edge
  edge-agree bound ws k move m n agree =
      let b : ℕ = (end_of f ws).block in
      passed-agree bound move (block_at f (slice_index (block_at f b).succs k)).params (arguments_at f b k) m n m n agree agree

  over-agree : (ws : List Way) (k : ℕ) (e : Goes ws) → HasWay f (end_of f ws) (ToSuccessor k) → (c : Bool) → is_critical f (end_of f ws).block k ≡ c →
      Agree (length (ToSuccessor k ∷ ws)) (split_stamp f (ToSuccessor k ∷ ws)) (source_after g (split_path f ws)) (source_after f ws) →
      Agree (length (ToSuccessor k ∷ ws)) (split_stamp f (ToSuccessor k ∷ ws)) (source_before g (split_path f (ToSuccessor k ∷ ws))) (source_before f (ToSuccessor k ∷ ws))
  unfolding source_before
  over-agree ws k e way true critical before =
      let move : Stamp → Stamp = split_stamp f (ToSuccessor k ∷ ws) in
      let ways : split_path f (ToSuccessor k ∷ ws) ≡ ToSuccessor 0 ∷ ToSuccessor k ∷ split_path f ws = rw critical refl in
      let whole : source_before g (split_path f (ToSuccessor k ∷ ws)) ≡ over_edge f (end_of f ws) (ToSuccessor k) (source_after g (split_path f ws)) =
      ap (source_before g) ways ∙ over-split ws k (source_after g (split_path f ws)) e way critical (length (ToSuccessor k ∷ split_path f ws)) in
      subst (λ m. Agree (length (ToSuccessor k ∷ ws)) move m (source_before f (ToSuccessor k ∷ ws))) (sym whole)
      (edge-agree (length (ToSuccessor k ∷ ws)) ws k move (source_after g (split_path f ws)) (source_after f ws) before)
  over-agree ws k e way false plain before =
      let move : Stamp → Stamp = split_stamp f (ToSuccessor k ∷ ws) in
      let ways : split_path f (ToSuccessor k ∷ ws) ≡ ToSuccessor k ∷ split_path f ws = rw plain refl in
      let whole : source_before g (split_path f (ToSuccessor k ∷ ws)) ≡ over_edge f (end_of f ws) (ToSuccessor k) (source_after g (split_path f ws)) =
      ap (source_before g) ways ∙ over-plain ws k (source_after g (split_path f ws)) e way plain in
      subst (λ m. Agree (length (ToSuccessor k ∷ ws)) move m (source_before f (ToSuccessor k ∷ ws))) (sym whole)
      (edge-agree (length (ToSuccessor k ∷ ws)) ws k move (source_after g (split_path f ws)) (source_after f ws) before)

  onward-agree : (ws : List Way) →
      Agree (length (Onward ∷ ws)) (split_stamp f (Onward ∷ ws)) (source_after g (split_path f ws)) (source_after f ws) →
      Agree (length (Onward ∷ ws)) (split_stamp f (Onward ∷ ws)) (source_before g (split_path f (Onward ∷ ws))) (source_before f (Onward ∷ ws))
  unfolding source_before over_edge
  onward-agree ws before = before

  writes : (ws : List Way) → IsPath f ws → Agree (length ws) (split_stamp f ws) (source_before g (split_path f ws)) (source_before f ws)
  unfolding source_before
  writes [] path = record { same = λ q. refl; under = λ q. tt }
  writes (Onward ∷ ws) path = onward-agree ws (after Onward ws (goes ws path.0) (writes ws path.0))
  writes (ToSuccessor k ∷ ws) path =
      over-agree ws k (goes ws path.0) path.1 (is_critical f (end_of f ws).block k) refl
      (after (ToSuccessor k) ws (goes ws path.0) (writes ws path.0))

  -- each path goes through, and no other reaches an old block
  pub split-paths : HasSplitPaths f g
  split-paths = record {
    paths = λ ws path. (goes ws path).path;
    ends = λ ws path. (goes ws path).same;
    only = λ vs path less. only-from vs (comes vs path) less;
    writes = λ ws path v. (writes ws path).same v;
  }
