-- A branch to blocks that have no parameters: it gathers no moves, and leaves the state as it is.
use Rattle.std.proofs.Common.{ℕ, zero, suc, ◌≡◌, ◌<◌, ◌≤◌, List, [], length, refl, sym, ap, subst, add-one, arith}
use Rattle.std.proofs.lemmas.List.{append-nil}
use Rattle.regalloc2_names.specs.declared.RegClass.{RegClass}
use Rattle.regalloc2_names.specs.declared.RegClass.TheVariants.{Int, Float, Vector}
use Rattle.regalloc2_names.specs.Place.{before}
use Rattle.regalloc2_function.specs.FunctionValue.{FunctionValue, block_at}
use Rattle.regalloc2_function.specs.OutputValue.{MoveValue}
use Rattle.regalloc2_semantics.specs.Runs.{arguments_at}
use Rattle.regalloc2_semantics.specs.Sound.{HasEdge, target_at}
use Rattle.regalloc2_parts.specs.AtOnce.{in_turn}
use Rattle.regalloc2_fastalloc_state.specs.declared.inst_regs.InstRegs.{InstRegs}
use Rattle.regalloc2_fastalloc_proofs.specs.InstSteps.{StateValue}
use Rattle.regalloc2_fastalloc_proofs.specs.BranchSteps.{GathersEdgeMoves, GathersMoves, IsOwnDef, OrdersMoves, ProcessesBranch, Pushes, no_edge}
use Rattle.regalloc2_fastalloc_proofs.specs.BranchSteps.{none_gathered, of_class, one_edge}
use Rattle.regalloc2_fastalloc_proofs.proofs.Moves.ParallelMovesOrdered.{none_taken}

-- where there are no moves, none are made
orders_no_moves : (inst_regs : InstRegs) (class : RegClass) (t : StateValue) → OrdersMoves inst_regs class [] [] t t
unfolding in_turn
orders_no_moves inst_regs class t = record {
  places = refl;
  edits = refl;
  allocatable = refl;
  fixed_stack = refl;
  dedicated_scratch = refl;
  lrus = refl;
  lends = (0, omega arith, none_taken t.slots class);
  grows = omega arith;
  assigned = λ m c. absurd (omega (arith, c.1));
  kept = λ q real other free. refl;
  each = λ k d lt. absurd (omega arith);
  idle = λ e. (refl, refl);
}

-- where there are no moves, none are pushed
pub pushes_no_moves : (point : ℕ) (inst_regs : InstRegs) (class : RegClass) (t : StateValue) → Pushes point inst_regs class [] t t
pushes_no_moves point inst_regs class t = record {
  made = [];
  middle = t;
  orders = orders_no_moves inst_regs class t;
  pushes = ap (λ (es : List (ℕ × MoveValue)). record t { edits = es }) (sym (append-nil t.edits));
}

module _ (f : FunctionValue) (b : ℕ) (t : InstRegs) (old : StateValue)
    (empty : (k : ℕ) → HasEdge f b k → (block_at f (target_at f b k)).params ≡ []) where
  -- no moves are gathered on the first edges
  gathers_no_moves : (point n : ℕ) → n ≤ length (block_at f b).succs → GathersMoves f b point t old n t old []
  gathers_no_moves point zero le = no_edge
  gathers_no_moves point (suc n) le =
      let lt : n < length (block_at f b).succs = omega arith in
      let none : length (block_at f (target_at f b n)).params ≡ 0 = ap length (empty n lt) in
      let Edge : ℕ → Type 0 = λ m. GathersEdgeMoves (IsOwnDef f b) point (block_at f (target_at f b n)).params (arguments_at f b n) t old [] m t old [] in
      subst (λ (m : ℕ). GathersMoves f b point t old m t old []) (add-one n)
      (one_edge n [] [] t t old old lt (gathers_no_moves point n (omega arith)) (subst Edge (sym none) none_gathered))

  -- a branch to blocks without parameters does nothing
  pub branch_without_arguments : (i : ℕ) → ProcessesBranch f b i t t old old
  unfolding of_class
  branch_without_arguments i = record {
    given = [];
    gathered = old;
    ints = old;
    floats = old;
    gathers = gathers_no_moves (before i) (length (block_at f b).succs) (omega arith);
    int = pushes_no_moves (before i) t Int old;
    float = pushes_no_moves (before i) t Float old;
    vector = pushes_no_moves (before i) t Vector old;
  }
