-- From blocks to paths.
use Rattle.std.proofs.Common.{ℕ, zero, suc, ◌≡◌, ◌≢◌, ◌+◌, ◌-◌, ◌<◌, ◌≤◌, true, false, List, [], ◌∷◌, length, Option, None, Some, refl, arith, sym, ap, ◌∙◌}
use Rattle.std.proofs.Common.{subst, inl, inr, ◌⊎◌}
use Rattle.std.specs.Prelude.{Contains, IsSome, slice_index_or}
use Rattle.std.proofs.lemmas.Bool.{cases_Bool, cases_eq}
use Rattle.regalloc2_names.specs.declared.OperandPos.{OperandPos}
use Rattle.regalloc2_names.specs.declared.OperandPos.TheVariants.{Early, Late}
use Rattle.regalloc2_names.specs.Register.{VirtualRegister}
use Rattle.regalloc2_names.specs.Operand.{OperandValue, is_reading}
use Rattle.regalloc2_names.specs.Place.{Place}
use Rattle.regalloc2_function.specs.FunctionValue.{FunctionValue, block_at, inst_at, op_at}
use Rattle.regalloc2_function.specs.OutputValue.{OutputValue}
use Rattle.regalloc2_semantics.specs.Runs.{Way, Onward, ToSuccessor, Location, first_of, end_of, last_inst, IsPath, HasWay, Stamp, read_of, over_edge}
use Rattle.regalloc2_semantics.specs.Runs.{arguments_at, source_before, source_after, source_read, IsDefinitelyAssigned, cells_before, IsReached}
use Rattle.regalloc2_semantics.specs.Laws.{ReadsAgree}
use Rattle.regalloc2_carry.specs.Listing.{items_by, items_from, block_items, IsReadIn}
use Rattle.regalloc2_carry.specs.Carry.{CarriesFrom, Carries}
use Rattle.regalloc2_carry.specs.Live.{HasEntered}
use Rattle.regalloc2_carry.specs.Live.{HoldsValueAt}
use Rattle.regalloc2_semantics.specs.Sound.{Undefined, names, HasEdge, target_at, HasSoundBlocks}
use Rattle.regalloc2_carry.specs.BlockByPoints.{block_walked, Rising, EndsQuiet}
use Rattle.regalloc2_carry.specs.Blocks.{IsUnwritten, IsUsed, IsUsedIn, IsWantedBehind, IsExcused, ExcusedAreSilent, ComesIn, GoesOut, BlockCarriesOn}
use Rattle.regalloc2_carry.specs.Blocks.{BlocksAgreeInPlaces, BlocksAgreeInPlacesByPoints}
use Rattle.regalloc2_semantics.proofs.AfterWrites.{after_defs-other}
use Rattle.regalloc2_carry.proofs.ParamsOnEdge.{passed-other, passed-passes, passes_some, passes_contains}
use Rattle.regalloc2_carry.proofs.PathInBlock.{onwards, onwards-block, onwards-inst, onwards-path, onwards-source}
use Rattle.regalloc2_carry.proofs.Points.{block_items-walked}
use Rattle.regalloc2_carry.proofs.PathSteps.{left_at, Stepped, stepped, reads_agree}

-- block by block: on some path from the block's beginning v is read or passed, and no block up to there writes it
pub data Live (f : FunctionValue) (v : VirtualRegister) : ℕ → Type 0 where
  read : {b : ℕ} → IsUnwritten f b v → IsReadIn f b v → Live f v b
  passed_on : {b : ℕ} → IsUnwritten f b v → (k : ℕ) → HasEdge f b k → Contains (arguments_at f b k) v → Live f v b
  onward : {b : ℕ} → IsUnwritten f b v → (k : ℕ) → HasEdge f b k → names v (block_at f (target_at f b k)).params ≡ false → Live f v (target_at f b k) →
      Live f v b

live_used : (f : FunctionValue) (v : VirtualRegister) (b : ℕ) → Live f v b → IsUsed f v
live_used f v b (read u r) = inl (b, r)
live_used f v b (passed_on u k edge c) = inr (b, k, edge, c)
live_used f v b (onward u k edge aside l) = live_used f v (target_at f b k) l

-- some block of the function uses v and does not write it
pub record UsedSomewhere (f : FunctionValue) (v : VirtualRegister) : Type 0 where
  pub block : ℕ
  pub within : block < length f.blocks
  pub unwritten : IsUnwritten f block v
  pub used : IsUsedIn f block v

-- a vreg live at a block's start, block by block, is used in some block of the function that doesn't write it
pub live_used_in_some_block : (f : FunctionValue) → HasSoundBlocks f → (v : VirtualRegister) (b : ℕ) → b < length f.blocks → Live f v b → UsedSomewhere f v
live_used_in_some_block f ok v b lt (read u r) = record { block = b; within = lt; unwritten = u; used = inl r }
live_used_in_some_block f ok v b lt (passed_on u k edge c) = record { block = b; within = lt; unwritten = u; used = inr (k, edge, c) }
live_used_in_some_block f ok v b lt (onward u k edge aside l) = live_used_in_some_block f ok v (target_at f b k) (ok.targets b k edge) l

-- what is live at a successor may be live out of the block
live_wanted : (f : FunctionValue) → HasSoundBlocks f → (v : VirtualRegister) (b k : ℕ) → HasEdge f b k → Live f v (target_at f b k) → IsWantedBehind f b v
live_wanted f ok v b k edge l =
    let u = live_used_in_some_block f ok v (target_at f b k) (ok.targets b k edge) l in (
      (k, edge),
      elim (cases_eq u.block b) [
        | inl e ↦ inl (subst (λ c. IsUnwritten f c v) e u.unwritten)
        | inr ne ↦ inr (u.block, u.within, ne, u.unwritten, u.used)
      ],
    )

-- a path at the beginning of a block
record Entered (f : FunctionValue) (b : ℕ) (ws : List Way) : Type 0 where
  path : IsPath f ws
  block_is : (end_of f ws).block ≡ b
  first_is : (end_of f ws).inst ≡ (block_at f b).range.first

-- a path at an instruction of the block, on which what the instructions before it do not write is as at the beginning
record PathTo (f : FunctionValue) (b i : ℕ) (ws vs : List Way) : Type 0 where
  path : IsPath f vs
  block_is : (end_of f vs).block ≡ b
  inst_is : (end_of f vs).inst ≡ i
  same : (v : VirtualRegister) → IsUnwritten f b v → source_before f vs v ≡ source_before f ws v

path_to_inst : (f : FunctionValue) (b i : ℕ) (ws : List Way) → Entered f b ws → (block_at f b).range.first ≤ i → i < (block_at f b).range.end →
    PathTo f b i ws (onwards (i - (block_at f b).range.first) ws)
path_to_inst f b i ws e le lt =
    let n : ℕ = i - (block_at f b).range.first in
    let first : (end_of f ws).inst ≡ (block_at f b).range.first = e.first_is in
    let last : (block_at f (end_of f ws).block).range.end ≡ (block_at f b).range.end = ap (λ c. (block_at f c).range.end) e.block_is in
    let at : (end_of f (onwards n ws)).inst ≡ (end_of f ws).inst + n = onwards-inst f n ws in
    record {
      path = onwards-path f n ws e.path (omega arith);
      block_is = onwards-block f n ws ∙ e.block_is;
      inst_is = omega arith;
      same = λ v u. onwards-source f n ws v (λ j from to. u j (omega arith) (omega arith));
    }

none_is_not_some : (x : Option Stamp) → x ≡ None → IsSome x → ⊥
none_is_not_some None e h = absurd cc
none_is_not_some (Some s) e h = absurd cc

some_unless_none : (x : Option Stamp) → (x ≡ None → ⊥) → IsSome x
some_unless_none None h = absurd (h refl)
some_unless_none (Some s) h = refl

locations : (b i c j : ℕ) → b ≡ c → i ≡ j → ◌≡◌ {A = Location} (record { block = b; inst = i }) (record { block = c; inst = j })
locations b i c j d e = rw (d, e) refl

read_none : (q : OperandPos) (x y : Option Stamp) → x ≡ None → y ≡ None → read_of q x y ≡ None
read_none Early x y e d = e
read_none Late x y e d = d

-- the last instruction of a block
abbrev last_inst_of : FunctionValue → ℕ → ℕ
last_inst_of f b = (block_at f b).range.end - 1

module _ (f : FunctionValue) (ok : HasSoundBlocks f) (written : IsDefinitelyAssigned f) where
  -- a step that doesn't write v keeps v's value
  still : (vs : List Way) (v : VirtualRegister) (b i : ℕ) → (end_of f vs).inst ≡ i → (block_at f b).range.first ≤ i → i < (block_at f b).range.end →
      IsUnwritten f b v → source_after f vs v ≡ source_before f vs v
  still vs v b i e le lt u = after_defs-other (last_inst f vs).operands (length vs) 0 (source_before f vs) v
      (subst (λ j. Undefined (inst_at f j).operands v) (sym e) (u i le lt))

  -- if an instruction reads v, v has a value there
  read_written : (b i j : ℕ) (vs : List Way) (v : VirtualRegister) → IsPath f vs → (end_of f vs).inst ≡ i → j < length (inst_at f i).operands →
      is_reading (op_at (inst_at f i).operands j) ≡ true → (op_at (inst_at f i).operands j).vreg ≡ v →
      source_before f vs v ≡ None → source_after f vs v ≡ None → ⊥
  read_written b i j vs v p e lt reads is before after =
      let at : ℕ → Type 0 = λ x. j < length (inst_at f x).operands in
      let o : OperandValue = op_at (last_inst f vs).operands j in
      let same : op_at (inst_at f i).operands j ≡ o = ap (λ x. op_at (inst_at f x).operands j) (sym e) in
      let w : IsSome (source_read f vs o) = (written vs p).0 j (subst at (sym e) lt) (subst (λ x. is_reading x ≡ true) same reads) in
      let here : o.vreg ≡ v = subst (λ x. x.vreg ≡ v) same is in
      none_is_not_some (source_read f vs o) (read_none o.position (source_before f vs o.vreg) (source_after f vs o.vreg) (ap (source_before f vs) here ∙ before)
      (ap (source_after f vs) here ∙ after)) w

  -- the path over an edge from the block's last instruction
  way_on : (b k : ℕ) (vs : List Way) → (block_at f b).range.first < (block_at f b).range.end → HasEdge f b k → (end_of f vs).block ≡ b →
      (end_of f vs).inst ≡ last_inst_of f b → HasWay f (end_of f vs) (ToSuccessor k)
  way_on b k vs nonempty edge e i =
      let x : (block_at f (end_of f vs).block).range.end ≡ (block_at f b).range.end = ap (λ c. (block_at f c).range.end) e in
      let y : (end_of f vs).inst ≡ (block_at f b).range.end - 1 = i in
      (omega arith, subst (λ c. HasEdge f c k) (sym e) edge)

  -- a path through the whole block, at its last instruction
  at_last : (b : ℕ) (ws : List Way) → b < length f.blocks → Entered f b ws →
      PathTo f b (last_inst_of f b) ws (onwards (last_inst_of f b - (block_at f b).range.first) ws)
  at_last b ws block e = let h : (block_at f b).range.first < (block_at f b).range.end = ok.nonempty b block in
      path_to_inst f b (last_inst_of f b) ws e (omega arith) (omega arith)

  -- over an edge into a block that does not take v
  entered_on : (b k : ℕ) (vs : List Way) → b < length f.blocks → HasEdge f b k → IsPath f vs → (end_of f vs).block ≡ b → (end_of f vs).inst ≡ last_inst_of f b →
      Entered f (target_at f b k) (ToSuccessor k ∷ vs)
  entered_on b k vs block edge p e i = record {
    path = (p, way_on b k vs (ok.nonempty b block) edge e i);
    block_is = ap (λ c. target_at f c k) e;
    first_is = ap (λ c. (block_at f (target_at f c k)).range.first) e;
  }

  kept_on : (k : ℕ) (vs : List Way) (v : VirtualRegister) → names v (block_at f (target_at f (end_of f vs).block k)).params ≡ false →
      source_before f (ToSuccessor k ∷ vs) v ≡ source_after f vs v
  unfolding source_before over_edge
  kept_on k vs v h = passed-other (block_at f (target_at f (end_of f vs).block k)).params (arguments_at f (end_of f vs).block k) (source_after f vs)
      (source_after f vs) v h

  -- a live vreg has a value
  live_written : (v : VirtualRegister) (b : ℕ) (ws : List Way) → b < length f.blocks → Entered f b ws → Live f v b → source_before f ws v ≡ None → ⊥
  live_written v b ws block e (read u (i, j, le, lt, j_lt, reads, is)) none =
      let t = path_to_inst f b i ws e le lt in
      let vs : List Way = onwards (i - (block_at f b).range.first) ws in
      let before : source_before f vs v ≡ None = t.same v u ∙ none in
      read_written b i j vs v t.path t.inst_is j_lt reads is before (still vs v b i t.inst_is le lt u ∙ before)
  live_written v b ws block e (passed_on u k edge (j, lt, is)) none =
      let t = at_last b ws block e in
      let vs : List Way = onwards (last_inst_of f b - (block_at f b).range.first) ws in
      let n : (block_at f b).range.first < (block_at f b).range.end = ok.nonempty b block in
      let after : source_after f vs v ≡ None = still vs v b (last_inst_of f b) t.inst_is (omega arith) (omega arith) u ∙ t.same v u ∙ none in
      let args : arguments_at f (end_of f vs).block k ≡ arguments_at f b k = ap (λ c. arguments_at f c k) t.block_is in
      let found : IsSome (source_after f vs (slice_index_or (arguments_at f (end_of f vs).block k) j v)) =
      (written vs t.path).1 k (way_on b k vs n edge t.block_is t.inst_is) j v (subst (λ xs. j < length xs) (sym args) lt) in
      none_is_not_some (source_after f vs v) after (subst (λ w. IsSome (source_after f vs w)) (ap (λ xs. slice_index_or xs j v) args ∙ is) found)
  live_written v b ws block e (onward u k edge aside l) none =
      let t = at_last b ws block e in
      let vs : List Way = onwards (last_inst_of f b - (block_at f b).range.first) ws in
      let n : (block_at f b).range.first < (block_at f b).range.end = ok.nonempty b block in
      let after : source_after f vs v ≡ None = still vs v b (last_inst_of f b) t.inst_is (omega arith) (omega arith) u ∙ t.same v u ∙ none in
      let not : names v (block_at f (target_at f (end_of f vs).block k)).params ≡ false = subst (λ c. names v (block_at f (target_at f c k)).params ≡ false)
      (sym t.block_is) aside in
      live_written v (target_at f b k) (ToSuccessor k ∷ vs) (ok.targets b k edge) (entered_on b k vs block edge t.path t.block_is t.inst_is) l
      (kept_on k vs v not ∙ after)

  -- every path ends in a block of the function
  pub block_within : (ws : List Way) → IsPath f ws → (end_of f ws).block < length f.blocks
  block_within [] p = ok.entry
  block_within (Onward ∷ ws) p = block_within ws p.0
  block_within (ToSuccessor k ∷ ws) p = ok.targets (end_of f ws).block k p.1.1

  -- a path to the beginning of the block on which v has no value
  record Unvisited (b : ℕ) (v : VirtualRegister) : Type 0 where
    ways : List Way
    entered : Entered f b ways
    none : source_before f ways v ≡ None

  -- a parameter of a successor that only one block leads to has no value on the first visit
  first_visit : (b : ℕ) (v : VirtualRegister) → IsExcused f b v → (ws : List Way) → IsPath f ws → Unvisited b v
      ⊎ ((source_before f ws v ≡ None) × ((end_of f ws).block ≢ b))
  unfolding source_before over_edge
  first_visit b v ex [] p = elim (cases_eq f.entry b) [
    | inl e ↦ inl (record { ways = []; entered = record { path = tt; block_is = e; first_is = ap (λ c. (block_at f c).range.first) e }; none = refl })
    | inr ne ↦ inr (refl, ne)
  ]
  first_visit b v ex (Onward ∷ ws) p = elim (first_visit b v ex ws p.0) [
    | inl x ↦ inl x
    | inr x ↦ inr (
      after_defs-other (last_inst f ws).operands (length ws) 0 (source_before f ws) v
          (ok.no_definition (target_at f b ex.0) (end_of f ws).inst v ex.3) ∙ x.0,
      x.1,
    )
  ]
  first_visit b v ex (ToSuccessor k ∷ ws) p = elim (first_visit b v ex ws p.0) [
    | inl x ↦ inl x
    | inr x ↦ (
        let a : ℕ = (end_of f ws).block in
        let aside : names v (block_at f (target_at f a k)).params ≡ false = elim (cases_Bool (names v (block_at f (target_at f a k)).params)) [
          | inl is ↦ absurd (x.1 (ex.2.from_one a b k ex.0 p.1.1 ex.1 (ok.one_block (target_at f a k) (target_at f b ex.0) v is ex.3) refl))
          | inr not ↦ not
        ] in
        let none : source_before f (ToSuccessor k ∷ ws) v ≡ None =
        kept_on k ws v aside ∙ after_defs-other (last_inst f ws).operands (length ws) 0 (source_before f ws) v
        (ok.no_definition (target_at f b ex.0) (end_of f ws).inst v ex.3) ∙ x.0 in
        elim (cases_eq (target_at f a k) b) [
          | inl e ↦ inl (record {
            ways = ToSuccessor k ∷ ws;
            entered = record { path = p; block_is = e; first_is = ap (λ c. (block_at f c).range.first) e };
            none = none;
          })
          | inr ne ↦ inr (none, ne)
        ])
  ]

  -- an excused vreg is not live
  live_not_excused : (b : ℕ) (v : VirtualRegister) (ws : List Way) → b < length f.blocks → Entered f b ws → Live f v b → IsExcused f b v → ⊥
  live_not_excused b v ws block e l ex = elim (first_visit b v ex ws e.path) [
    | inl x ↦ live_written v b x.ways block x.entered l x.none
    | inr x ↦ x.1 e.block_is
  ]

  excused_unwritten : (b : ℕ) (v : VirtualRegister) → IsExcused f b v → IsUnwritten f b v
  excused_unwritten b v ex = λ i le lt. ok.no_definition (target_at f b ex.0) i v ex.3

  excused_silent : (b : ℕ) (ws : List Way) → b < length f.blocks → Entered f b ws → ExcusedAreSilent f b
  excused_silent b ws block e = λ v ex. (
    λ r. live_not_excused b v ws block e (read (excused_unwritten b v ex) r) ex,
    λ k edge c. live_not_excused b v ws block e (passed_on (excused_unwritten b v ex) k edge c) ex,
  )

  module _ (out : OutputValue) (stand : ℕ → VirtualRegister → Option Place) (carries : (b : ℕ) → IsReached f (first_of f b) →
      BlockCarriesOn f stand b (block_items f out b)) where
    -- what is known at a path's last step: what is left of the block's listing carries each vreg that is live at the
    -- block's beginning or written in the block
    record Rest (ws : List Way) : Type 0 where
      start : List Way
      entered : Entered f (end_of f ws).block start
      left : ℕ
      counted : (end_of f ws).inst + suc left ≡ (block_at f (end_of f ws).block).range.end
      carried : (v : VirtualRegister) → IsUsed f v → (IsUnwritten f (end_of f ws).block v → Live f v (end_of f ws).block) →
          CarriesFrom v (GoesOut f stand (end_of f ws).block v) (left_at f out (end_of f ws) (suc left)) (source_before f ws) (cells_before f out ws)
          (length ws)

    reached : (b : ℕ) (ws : List Way) → Entered f b ws → IsReached f (first_of f b)
    reached b ws e = (ws, e.path, locations (end_of f ws).block (end_of f ws).inst b (block_at f b).range.first e.block_is e.first_is)

    -- at a block's beginning, where each live vreg is in its places
    at_beginning : (b : ℕ) (ws : List Way) → b < length f.blocks → Entered f b ws →
        ((v : VirtualRegister) (p : Place) → Live f v b → stand b v ≡ Some p → cells_before f out ws p ≡ source_before f ws v) →
        (v : VirtualRegister) → IsUsed f v → (IsUnwritten f b v → Live f v b) →
        CarriesFrom v (GoesOut f stand b v) (block_items f out b) (source_before f ws) (cells_before f out ws) (length ws)
    unfolding Carries
    at_beginning b ws block e located v used live =
        carries b (reached b ws e) (excused_silent b ws block e) v used (λ ex. live_not_excused b v ws block e (live (excused_unwritten b v ex)) ex)
        (source_before f ws) (cells_before f out ws) (length ws) (λ p h. located v p (live h.0) h.1)

    -- what is known at the last step of a path that has just entered a block
    rest_at : (ws : List Way) → Entered f (end_of f ws).block ws →
        ((v : VirtualRegister) (p : Place) → Live f v (end_of f ws).block → stand (end_of f ws).block v ≡ Some p →
        cells_before f out ws p ≡ source_before f ws v) → Rest ws
    rest_at ws e located =
        let b : ℕ = (end_of f ws).block in
        let within : b < length f.blocks = block_within ws e.path in
        let nonempty : (block_at f b).range.first < (block_at f b).range.end = ok.nonempty b within in
        let first : (block_at f b).range.first ≡ (end_of f ws).inst = sym e.first_is in
        let count : (block_at f b).range.end - (block_at f b).range.first ≡ suc ((block_at f b).range.end - (block_at f b).range.first - 1) = omega arith in
        record {
          start = ws;
          entered = e;
          left = (block_at f b).range.end - (block_at f b).range.first - 1;
          counted = omega arith;
          carried = λ v used live.
              let here : CarriesFrom v (GoesOut f stand b v) (items_from f out (block_at f b).range.first (block_at f b).range.first
              ((block_at f b).range.end - (block_at f b).range.first)) (source_before f ws) (cells_before f out ws) (length ws) = at_beginning b ws within e
              located v used live in
              subst (λ i. CarriesFrom v (GoesOut f stand b v) (items_from f out (block_at f b).range.first i
              (suc ((block_at f b).range.end - (block_at f b).range.first - 1))) (source_before f ws) (cells_before f out ws) (length ws)) first
              (subst (λ n. CarriesFrom v (GoesOut f stand b v) (items_from f out (block_at f b).range.first (block_at f b).range.first n)
              (source_before f ws) (cells_before f out ws) (length ws)) count here);
        }

    -- one instruction further in a block
    rest_onward : (ws : List Way) (start : List Way) (left : ℕ) → Entered f (end_of f ws).block start →
        (end_of f ws).inst + suc left ≡ (block_at f (end_of f ws).block).range.end →
        ((v : VirtualRegister) → IsUsed f v → (IsUnwritten f (end_of f ws).block v → Live f v (end_of f ws).block) →
        CarriesFrom v (GoesOut f stand (end_of f ws).block v) (left_at f out (end_of f ws) (suc left)) (source_before f ws) (cells_before f out ws)
        (length ws)) →
        (end_of f ws).inst + 1 < (block_at f (end_of f ws).block).range.end → Rest (Onward ∷ ws)
    unfolding source_before over_edge cells_before
    rest_onward ws start zero entered counted carried more = absurd (omega arith)
    rest_onward ws start (suc left) entered counted carried more = record {
      start = start;
      entered = entered;
      left = left;
      counted = omega arith;
      carried = λ v used live. (stepped f out (end_of f ws) v (GoesOut f stand (end_of f ws).block v) (suc left) (source_before f ws) (cells_before f out ws)
          (length ws) (carried v used live)).rest;
    }

    -- at the block's end
    ends : (k : ℕ) (ws : List Way) → Rest ws → (end_of f ws).inst + 1 ≡ (block_at f (end_of f ws).block).range.end → (v : VirtualRegister) → IsUsed f v →
        (IsUnwritten f (end_of f ws).block v → Live f v (end_of f ws).block) →
        (p : Place) → GoesOut f stand (end_of f ws).block v p → cells_before f out (ToSuccessor k ∷ ws) p ≡ source_after f ws v
    unfolding items_by CarriesFrom cells_before
    ends k ws r last v used live =
        let counted : (end_of f ws).inst + suc r.left ≡ (block_at f (end_of f ws).block).range.end = r.counted in
        let none : r.left ≡ 0 = omega arith in
        let E : Place → Type 0 = GoesOut f stand (end_of f ws).block v in
        let one : CarriesFrom v E (left_at f out (end_of f ws) (suc 0)) (source_before f ws) (cells_before f out ws) (length ws) =
        subst (λ n. CarriesFrom v E (left_at f out (end_of f ws) (suc n)) (source_before f ws) (cells_before f out ws) (length ws)) none
        (r.carried v used live) in
        (stepped f out (end_of f ws) v E 0 (source_before f ws) (cells_before f out ws) (length ws) one).rest

    -- over an edge
    edge_stands : (k : ℕ) (ws : List Way) → IsPath f (ToSuccessor k ∷ ws) → Rest ws → (v : VirtualRegister) (p : Place) →
        Live f v (target_at f (end_of f ws).block k) → stand (target_at f (end_of f ws).block k) v ≡ Some p →
        cells_before f out (ToSuccessor k ∷ ws) p ≡ source_before f (ToSuccessor k ∷ ws) v
    unfolding source_before over_edge
    edge_stands k ws path r v p l s =
        let a : ℕ = (end_of f ws).block in
        let params : List VirtualRegister = (block_at f (target_at f a k)).params in
        let edge : HasEdge f a k = path.1.1 in
        elim (cases_Bool (names v params)) [
          | inl is ↦ (
              let g = passes_some params (arguments_at f a k) v (ok.arguments a k edge) is in
              let m = passes_contains params (arguments_at f a k) v g.0 g.1 in
              ends k ws r path.1.0 g.0 (inr (a, k, edge, m)) (λ n. passed_on n k edge m) p (inr (k, v, edge, g.1, s))
              ∙ sym (passed-passes params (arguments_at f a k) (source_after f ws) (source_after f ws) v g.0 g.1))
          | inr not ↦ (
              let none : (j : ℕ) → HasEdge f a j → names v (block_at f (target_at f a j)).params ≡ false =
              λ j d. elim (cases_Bool (names v (block_at f (target_at f a j)).params)) [
                | inl is ↦ (
                    let other : k ≢ j = λ q. let x : names v (block_at f (target_at f a j)).params ≡ false = subst (λ i. names v
                    (block_at f (target_at f a i)).params ≡ false) q not in cc in
                    absurd (live_not_excused a v r.start (block_within ws path.0) r.entered
                    (onward (λ i le lt. ok.no_definition (target_at f a j) i v is) k edge not l) (j, d, ok.no_critical_edge a k j edge d other, is)))
                | inr n ↦ n
              ] in
              ends k ws r path.1.0 v (live_used f v (target_at f a k) l) (λ n. onward n k edge not l) p (inl (k, edge, none, live_wanted f ok v a k edge l, s))
              ∙ sym (kept_on k ws v not))
        ]

    rest_on : (ws : List Way) → IsPath f ws → Rest ws
    unfolding source_before cells_before
    rest_on [] p = rest_at [] (record { path = tt; block_is = refl; first_is = refl }) (λ v q l s. refl)
    rest_on (Onward ∷ ws) p = let r = rest_on ws p.0 in rest_onward ws r.start r.left r.entered r.counted r.carried p.1
    rest_on (ToSuccessor k ∷ ws) p = rest_at (ToSuccessor k ∷ ws) (record { path = p; block_is = refl; first_is = refl }) (edge_stands k ws p (rest_on ws p.0))

    -- where an instruction is, within its block
    within_block : (ws : List Way) → IsPath f ws → Rest ws → ((block_at f (end_of f ws).block).range.first ≤ (end_of f ws).inst)
        × ((end_of f ws).inst < (block_at f (end_of f ws).block).range.end)
    within_block ws p r = (from_first ws p, omega (arith, r.counted))
      where
        from_first : (vs : List Way) → IsPath f vs → (block_at f (end_of f vs).block).range.first ≤ (end_of f vs).inst
        from_first [] q = omega arith
        from_first (Onward ∷ vs) q = let h = from_first vs q.0 in omega arith
        from_first (ToSuccessor k ∷ vs) q = omega arith

    agree_at : (ws : List Way) → IsPath f ws → ReadsAgree f out ws
    agree_at ws p =
        let r = rest_on ws p in
        let at = within_block ws p r in
        let s : (v : VirtualRegister) → IsUsed f v → (IsUnwritten f (end_of f ws).block v → Live f v (end_of f ws).block) →
        Stepped f out (end_of f ws) v (GoesOut f stand (end_of f ws).block v) r.left (source_before f ws) (cells_before f out ws) (length ws) =
        λ v used live. stepped f out (end_of f ws) v (GoesOut f stand (end_of f ws).block v) r.left (source_before f ws) (cells_before f out ws) (length ws)
        (r.carried v used live) in
        let reading : (v : VirtualRegister) (j : ℕ) → j < length (last_inst f ws).operands → is_reading (op_at (last_inst f ws).operands j) ≡ true →
        (op_at (last_inst f ws).operands j).vreg ≡ v → IsReadIn f (end_of f ws).block v =
        λ v j lt reads is. ((end_of f ws).inst, j, at.0, at.1, lt, reads, is) in
        reads_agree f out ws (written ws p).0
        (λ v j lt reads early is. (s v (inl ((end_of f ws).block, reading v j lt reads is)) (λ n. read n (reading v j lt reads is))).early j lt reads early is)
        (λ v j lt reads late is. (s v (inl ((end_of f ws).block, reading v j lt reads is)) (λ n. read n (reading v j lt reads is))).late j lt reads late is)

    -- where a path comes to a block, the places of each vreg that is live there hold what it has
    pub holds_live : (ws : List Way) → IsPath f ws → HasEntered f ws → (v : VirtualRegister) (p : Place) → Live f v (end_of f ws).block →
        stand (end_of f ws).block v ≡ Some p → HoldsValueAt f out ws p v
    unfolding source_before cells_before
    holds_live ws path first v p l s = (
      some_unless_none (source_before f ws v) (live_written v (end_of f ws).block ws (block_within ws path)
          (record { path = path; block_is = refl; first_is = first }) l),
      holds ws path first l s,
    )
      where
        holds : (vs : List Way) → IsPath f vs → HasEntered f vs → Live f v (end_of f vs).block → stand (end_of f vs).block v ≡ Some p →
            cells_before f out vs p ≡ source_before f vs v
        holds [] q e m at = refl
        holds (Onward ∷ vs) q e m at = (let inside = (within_block vs q.0 (rest_on vs q.0)).0 in absurd (omega (arith, inside, e)))
        holds (ToSuccessor k ∷ vs) q e m at = edge_stands k vs q (rest_on vs q.0) v p m at

-- if every vreg is definitely assigned, and every reachable block meets its obligation, reads agree on every path
pub blocks_agree_in_places : BlocksAgreeInPlaces
blocks_agree_in_places f out stand ok written carries = agree_at f ok written out stand carries

-- a reachable block is one of the function's
reached_within : (f : FunctionValue) → HasSoundBlocks f → (b : ℕ) → IsReached f (first_of f b) → b < length f.blocks
reached_within f ok b (ws, p, e) = subst (λ c. c < length f.blocks) (ap (λ (l : Location). l.block) e) (within ws p)
  where
    within : (vs : List Way) → IsPath f vs → (end_of f vs).block < length f.blocks
    within [] q = ok.entry
    within (Onward ∷ vs) q = within vs q.0
    within (ToSuccessor k ∷ vs) q = ok.targets (end_of f vs).block k q.1.1

-- a listing built from program points carries the same
pub items_carry_on : (f : FunctionValue) (out : OutputValue) (stand : ℕ → VirtualRegister → Option Place) → HasSoundBlocks f → Rising out.edits →
    ((b : ℕ) → b < length f.blocks → EndsQuiet f out b) →
    ((b : ℕ) → IsReached f (first_of f b) → BlockCarriesOn f stand b (block_walked f out b)) → (b : ℕ) → IsReached f (first_of f b) →
    BlockCarriesOn f stand b (block_items f out b)
items_carry_on f out stand ok rising quiet carries b reached = λ silent v used free.
    let within : b < length f.blocks = reached_within f ok b reached in
    subst (λ l. Carries v l (ComesIn f stand b v) (GoesOut f stand b v))
    (sym (block_items-walked f out b rising (ok.nonempty b within) (quiet b within))) (carries b reached silent v used free)

-- `blocks_agree_in_places` with listings made by the edits' points
pub blocks_agree_in_places_by_points : BlocksAgreeInPlacesByPoints
blocks_agree_in_places_by_points f out stand ok written rising quiet carries = blocks_agree_in_places f out stand ok written
    (items_carry_on f out stand ok rising quiet carries)
