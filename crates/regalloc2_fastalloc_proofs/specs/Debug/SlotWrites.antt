-- Which moves write the slot of a vreg, stated of the output alone.
use Rattle.std.specs.Prelude.{ℕ, ◌≡◌, ◌<◌, ◌+◌, true, false, All, length, List, ◌∷◌}
use Rattle.regalloc2_names.specs.Register.{VirtualRegister}
use Rattle.regalloc2_names.specs.Place.{Place, InSlot, before, after}
use Rattle.regalloc2_function.specs.FunctionValue.{FunctionValue, block_at, inst_at, op_at}
use Rattle.regalloc2_function.specs.OutputValue.{OutputValue, allocs_of, place_at}
use Rattle.regalloc2_semantics.specs.Runs.{Way, Onward, end_of, IsPath}
use Rattle.regalloc2_carry.specs.Live.{HasEntered}
use Rattle.regalloc2_semantics.specs.Live.{IsLive, NamesAt, DefinesAt}
use Rattle.regalloc2_semantics.specs.Sound.{Undefined}
use Rattle.regalloc2_names.specs.Operand.{is_def}
use Rattle.regalloc2_fastalloc_proofs.specs.StoreSteps.{IsStoredAt}
use Rattle.regalloc2_fastalloc_proofs.specs.Debug.SlotHoldsValue.{ReadsInPlace, ShowsAt}

-- where a move may write v's slot: after an instruction that defines v, before an instruction that reads v there,
-- before a branch, or at the start of a block if the branch into it defines v, or passes what it defines to v
pub data MayWrite (f : FunctionValue) (out : OutputValue) (v : VirtualRegister) (p : Place) : ℕ → Type 0 where
  after_definition : (i k : ℕ) → k < length (inst_at f i).operands → is_def (op_at (inst_at f i).operands k).kind ≡ true →
      (op_at (inst_at f i).operands k).vreg ≡ v → MayWrite f out v p (after i)
  before_read : (i k : ℕ) → ReadsInPlace f out v p i k → MayWrite f out v p (before i)
  before_branch : (i : ℕ) → (inst_at f i).is_branch ≡ true → MayWrite f out v p (before i)
  at_begin : (b : ℕ) → b < length f.blocks → IsStoredAt f b v → MayWrite f out v p (before (block_at f b).range.first)

-- What the walk guarantees of v's slot:
--     entered   where a path enters a block with v live, once the moves before its first instruction have run, the slot
--               holds v's value, if that instruction is no branch and doesn't define v
--     defined   after a definition of v, once the moves before the next instruction have run, the slot holds v's value,
--               if v is live and it is no branch
--     moves     each move that writes the slot is where `MayWrite` allows it
--     own       no operand of another vreg has it as its place
pub record IsSlotOfValue (f : FunctionValue) (out : OutputValue) (v : VirtualRegister) (n : ℕ) : Type 0 where
  pub entered : (ws : List Way) → IsPath f ws → HasEntered f ws → IsLive f v (end_of f ws) → Undefined (inst_at f (end_of f ws).inst).operands v →
      (inst_at f (end_of f ws).inst).is_branch ≡ false → ShowsAt f out v (InSlot n) ws
  pub defined : (ws : List Way) → IsPath f (Onward ∷ ws) → DefinesAt f v (end_of f ws).inst → IsLive f v (end_of f (Onward ∷ ws)) →
      (inst_at f ((end_of f ws).inst + 1)).is_branch ≡ false → ShowsAt f out v (InSlot n) (Onward ∷ ws)
  pub moves : All (λ e. e.1.to ≡ InSlot n → MayWrite f out v (InSlot n) e.0) out.edits
  pub own : (w : VirtualRegister) (i k : ℕ) → NamesAt f w i k → place_at (allocs_of out i) k ≡ InSlot n → w ≡ v
