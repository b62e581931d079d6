-- How an output uses the slot of one vreg; it follows that the slot holds the vreg's value.
use Rattle.std.specs.Prelude.{ℕ, ◌≡◌, ◌+◌, ◌<◌, ◌⊎◌, false, true, List, ◌∷◌, length}
use Rattle.regalloc2_names.specs.Register.{VirtualRegister}
use Rattle.regalloc2_names.specs.Place.{Place}
use Rattle.regalloc2_function.specs.FunctionValue.{FunctionValue, inst_at, op_at}
use Rattle.regalloc2_function.specs.OutputValue.{OutputValue, allocs_of, place_at}
use Rattle.regalloc2_semantics.specs.Runs.{Way, Onward, end_of, IsPath, source_before, after_moves, moves_at, cells_before}
use Rattle.regalloc2_names.specs.Operand.{is_reading}
use Rattle.regalloc2_carry.specs.Carry.{Spares}
use Rattle.regalloc2_carry.specs.Live.{HasEntered}
use Rattle.regalloc2_semantics.specs.Live.{IsLive, DefinesAt}
use Rattle.regalloc2_semantics.specs.Sound.{Undefined}
use Rattle.regalloc2_carry.proofs.UnwrittenPlaces.{NoMoveTo}

-- an operand of an instruction reads v in a place
pub record ReadsInPlace (f : FunctionValue) (out : OutputValue) (v : VirtualRegister) (p : Place) (i k : ℕ) : Type 0 where
  pub within : k < length (inst_at f i).operands
  pub reading : is_reading (op_at (inst_at f i).operands k) ≡ true
  pub vreg : (op_at (inst_at f i).operands k).vreg ≡ v
  pub place : place_at (allocs_of out i) k ≡ p

-- before the last step of a path, once its moves have run, the place holds v's last write
abbrev pub ShowsAt : FunctionValue → OutputValue → VirtualRegister → Place → List Way → Type 0
ShowsAt f out v p ws = after_moves (moves_at f out (end_of f ws)) (cells_before f out ws) p ≡ source_before f ws v

-- What an output guarantees of the slot of v:
--     entered   where a path enters a block with v live, once the moves before its first instruction have run, the slot
--               holds v's value, if that instruction is no branch and doesn't define v
--     defined   after a definition of v, once the moves before the next instruction have run, the slot holds v's value,
--               if v is live and it is no branch
--     written   no move before any other instruction of a block writes the slot, unless the instruction reads v there,
--               or is a branch
--     spared    an instruction that doesn't define v doesn't write the slot
pub record IsKeptInSlot (f : FunctionValue) (out : OutputValue) (v : VirtualRegister) (p : Place) : Type 0 where
  pub entered : (ws : List Way) → IsPath f ws → HasEntered f ws → IsLive f v (end_of f ws) → Undefined (inst_at f (end_of f ws).inst).operands v →
      (inst_at f (end_of f ws).inst).is_branch ≡ false → ShowsAt f out v p ws
  pub defined : (ws : List Way) → IsPath f (Onward ∷ ws) → DefinesAt f v (end_of f ws).inst → IsLive f v (end_of f (Onward ∷ ws)) →
      (inst_at f ((end_of f ws).inst + 1)).is_branch ≡ false → ShowsAt f out v p (Onward ∷ ws)
  pub written : (ws : List Way) → IsPath f (Onward ∷ ws) → Undefined (inst_at f (end_of f ws).inst).operands v →
      Undefined (inst_at f ((end_of f ws).inst + 1)).operands v → (inst_at f ((end_of f ws).inst + 1)).is_branch ≡ false →
      NoMoveTo p (moves_at f out (end_of f (Onward ∷ ws))) ⊎ ((k : ℕ) × ReadsInPlace f out v p ((end_of f ws).inst + 1) k)
  pub spared : (ws : List Way) → IsPath f ws → Undefined (inst_at f (end_of f ws).inst).operands v →
      Spares (inst_at f (end_of f ws).inst).operands (allocs_of out (end_of f ws).inst) (inst_at f (end_of f ws).inst).clobbers p
