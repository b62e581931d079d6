-- What runs in a block from some point on: moves and instructions, in order.
use Rattle.std.specs.Prelude.{ℕ, zero, suc, ◌≡◌, ◌+◌, ◌-◌, ◌<◌, ◌≤◌, length, Bool, true, false, ◌&&◌, ◌||◌, List, [], ◌∷◌}
use Rattle.regalloc2_names.specs.declared.sets.PRegSet.{PRegSet}
use Rattle.regalloc2_names.specs.Register.{VirtualRegister, is_vreg}
use Rattle.regalloc2_names.specs.Operand.{OperandValue, is_def, is_reading}
use Rattle.regalloc2_names.specs.Place.{Place}
use Rattle.regalloc2_function.specs.FunctionValue.{FunctionValue, InstValue, block_at, inst_at, op_at}
use Rattle.regalloc2_function.specs.Listing.{moves_before}
use Rattle.regalloc2_function.specs.OutputValue.{OutputValue, MoveValue, allocs_of}

-- a move, or an instruction with its operands' places and its clobbers
pub data Item : Type 0 where
  Move : MoveValue → Item
  Exec : (operands : List OperandValue) (places : List Place) (clobbers : PRegSet) → Item

-- the instruction as an item
abbrev pub exec_item : InstValue → List Place → Item
exec_item i places = Exec i.operands places i.clobbers

-- moves, and then what follows them
unfoldable pub with_moves : List MoveValue → List Item → List Item
with_moves [] items = items
with_moves (m ∷ ms) items = Move m ∷ with_moves ms items

-- count instructions from an index on, each after its moves
unfoldable pub items_by : (ℕ → InstValue) → (ℕ → List MoveValue) → (ℕ → List Place) → ℕ → ℕ → List Item
items_by insts moves places i zero = []
items_by insts moves places i (suc count) = with_moves (moves i) (exec_item (insts i) (places i) ∷ items_by insts moves places (i + 1) count)

-- what an output lists for a block that begins at first: count instructions from an index on
abbrev pub items_from : FunctionValue → OutputValue → ℕ → ℕ → ℕ → List Item
items_from f out first i count = items_by (inst_at f) (moves_before out first) (allocs_of out) i count

-- the listing of the whole block
abbrev pub block_items : FunctionValue → OutputValue → ℕ → List Item
block_items f out b = items_from f out (block_at f b).range.first (block_at f b).range.first ((block_at f b).range.end - (block_at f b).range.first)

-- whether operands, or a listing, write a vreg
unfoldable pub defines : VirtualRegister → List OperandValue → Bool
defines v [] = false
defines v (o ∷ os) = (is_def o.kind && is_vreg o.vreg v) || defines v os

-- whether the listing defines the vreg, by an operand of one of its instructions
unfoldable pub writes : VirtualRegister → List Item → Bool
writes v [] = false
writes v (Move m ∷ items) = writes v items
writes v (Exec operands places clobbers ∷ items) = defines v operands || writes v items

-- some instruction of a block reads v
abbrev pub IsReadIn : FunctionValue → ℕ → VirtualRegister → Type 0
IsReadIn f b v = (i j : ℕ) × ((block_at f b).range.first ≤ i) × (i < (block_at f b).range.end) × (j < length (inst_at f i).operands)
    × (is_reading (op_at (inst_at f i).operands j) ≡ true) × ((op_at (inst_at f i).operands j).vreg ≡ v)
