-- One instruction of a path, with the moves before it and after it: what its listing carries holds along the path.
use Rattle.std.proofs.Common.{ℕ, suc, ◌≡◌, ◌+◌, ◌≤◌, List, [], ◌∷◌, length, sym, ap, ◌∙◌, subst}
use Rattle.regalloc2_names.specs.Register.{VirtualRegister}
use Rattle.regalloc2_names.specs.Place.{Place, before, after}
use Rattle.regalloc2_function.specs.FunctionValue.{FunctionValue, block_at, inst_at}
use Rattle.regalloc2_function.specs.Listing.{moves_before}
use Rattle.regalloc2_function.specs.OutputValue.{OutputValue, MoveValue, allocs_of}
use Rattle.regalloc2_semantics.specs.Runs.{Way, Onward, end_of, source_before, over_edge, after_moves, moves_at, cells_before}
use Rattle.regalloc2_carry.specs.Listing.{Item, exec_item, with_moves}
use Rattle.regalloc2_carry.specs.Carry.{Carries, CarriesFrom}
use Rattle.regalloc2_carry.specs.BlockByPoints.{at_point, walked, Rising}
use Rattle.regalloc2_carry.proofs.CarryRules.{after_their_moves}
use Rattle.regalloc2_carry.proofs.Points.{moves_before-first, moves_before-later}
use Rattle.regalloc2_carry.proofs.StoresInFront.{after_append}
use Rattle.regalloc2_semantics.specs.Laws.{Cells}

module _ (f : FunctionValue) (out : OutputValue) (rising : Rising out.edits) where
  abbrev pub moves_on : ℕ → List MoveValue
  moves_on q = at_point out.edits q

  -- the cells at the end of a path, before the moves in front of its last instruction
  pub data Fronts (ws : List Way) (c : Cells) : Type 0 where
    front : after_moves (moves_at f out (end_of f ws)) (cells_before f out ws) ≡ after_moves (moves_on (before (end_of f ws).inst)) c → Fronts ws c

  -- if a path has just entered a block
  pub entered_front : (ws : List Way) → (end_of f ws).inst ≡ (block_at f (end_of f ws).block).range.first → Fronts ws (cells_before f out ws)
  entered_front ws e = front (ap (λ ms. after_moves ms (cells_before f out ws))
      (ap (λ (n : ℕ). moves_before out n (end_of f ws).inst) (sym e) ∙ moves_before-first out (end_of f ws).inst))

  -- the cells after an instruction and the moves after it
  abbrev pub behind : List Way → Cells
  behind ws = after_moves (moves_on (after (end_of f ws).inst)) (cells_before f out (Onward ∷ ws))

  -- if a path went on within its block: the cells before its instruction follow from the cells after the previous one
  pub onward_front : (ws : List Way) → (block_at f (end_of f ws).block).range.first ≤ (end_of f ws).inst → Fronts (Onward ∷ ws) (behind ws)
  onward_front ws le = front (
      ap (λ ms. after_moves ms (cells_before f out (Onward ∷ ws))) (moves_before-later out (block_at f (end_of f ws).block).range.first (end_of f ws).inst le
      rising)
      ∙ after_append (moves_on (after (end_of f ws).inst)) (moves_on (before ((end_of f ws).inst + 1))) (cells_before f out (Onward ∷ ws)))

  -- what the listing of the instruction carries
  pub carried_on : (v : VirtualRegister) (P E : Place → Type 0) (ws : List Way) (c : Cells) →
      Carries v (walked (inst_at f) (at_point out.edits) (allocs_of out) (end_of f ws).inst 1) P E → Fronts ws c →
      ((p : Place) → P p → c p ≡ source_before f ws v) → (p : Place) → E p → behind ws p ≡ source_before f (Onward ∷ ws) v
  unfolding Carries CarriesFrom walked cells_before source_before over_edge
  carried_on v P E ws c carries (front is) holds p e =
      let i : ℕ = (end_of f ws).inst in
      let all = carries (source_before f ws) c (length ws) holds in
      let behind_it : List Item = with_moves (moves_on (after i)) [] in
      let exec = after_their_moves (moves_on (before i)) v E (exec_item (inst_at f i) (allocs_of out i) ∷ behind_it) (source_before f ws) c (length ws) all in
      let same = subst (λ (d : Cells). CarriesFrom v E (exec_item (inst_at f i) (allocs_of out i) ∷ behind_it) (source_before f ws) d (length ws)) (sym is)
      exec in
      let last = after_their_moves (moves_on (after i)) v E [] (source_before f (Onward ∷ ws)) (cells_before f out (Onward ∷ ws)) (suc (length ws)) same.2 in
      last p e
