-- Held values, and faithful outputs: on every path each use reads what the function's own run reads.
-- Constraints are as in upstream's `OperandConstraint`. Its checker tests that reads agree, and keeps a set of vregs for each place; here
-- both are defined along paths.
use Rattle.std.specs.Prelude.{◌≡◌, List, length, Option, IsSome, ℕ, ◌<◌, true, All}
use Rattle.regalloc2_names.specs.declared.OperandPos.{OperandPos}
use Rattle.regalloc2_names.specs.declared.OperandConstraint.{OperandConstraint}
use Rattle.regalloc2_names.specs.declared.OperandConstraint.TheVariants.{Any, Reg, Stack, FixedReg, Reuse, Limit}
use Rattle.regalloc2_names.specs.Place.{Place, NoPlace, InRegister, InSlot}
use Rattle.regalloc2_names.specs.Register.{VirtualRegister}
use Rattle.regalloc2_names.specs.Operand.{OperandValue, is_reading}
use Rattle.regalloc2_function.specs.FunctionValue.{FunctionValue, inst_at, op_at}
use Rattle.regalloc2_function.specs.OutputValue.{OutputValue, MoveValue, allocs_of, place_at}
use Rattle.regalloc2_function.specs.Machine.{MachineValue, IsStackPlace, IsPlainRegister}
use Rattle.regalloc2_semantics.specs.Runs.{Way, Location, IsPath, end_of, Stamp, read_of, source_before, source_after, cells_early, cells_late}
use Rattle.regalloc2_semantics.specs.Runs.{cells_before, last_inst, source_read, allocated_read, moves_at}

-- what a place holds at the position at which the early or the late uses of a path's last step are read
abbrev pub cell_at : FunctionValue → OutputValue → List Way → OperandPos → Place → Option Stamp
cell_at f o ws position p =
    let early : Place → Option Stamp = cells_early f o (end_of f ws) (cells_before f o ws) in
    read_of position (early p) (cells_late f o (end_of f ws) (length ws) early p)

-- on every path that reaches the position, the place holds the write that the vreg has
abbrev pub HoldsOnPaths : FunctionValue → OutputValue → Location → OperandPos → Place → VirtualRegister → Type 0
HoldsOnPaths f o l position p v = (ws : List Way) → IsPath f ws → end_of f ws ≡ l →
    IsSome (cell_at f o ws position p) × (cell_at f o ws position p ≡ read_of position (source_before f ws v) (source_after f ws v))

-- the place of an operand meets its constraint; `places` are the places of the instruction's `count` operands
abbrev pub Meets : MachineValue → ℕ → List Place → OperandConstraint → Place → Type 0
Meets env count places Any p = p ≡ NoPlace → ⊥
Meets env count places Reg p = IsPlainRegister env p
Meets env count places Stack p = IsStackPlace env p
Meets env count places (FixedReg r) p = p ≡ InRegister r
Meets env count places (Reuse n) p = IsRegister p × (n < count) × (p ≡ place_at places n)
  where
    IsRegister : Place → Type 0
    IsRegister NoPlace = ⊥
    IsRegister (InRegister r) = Unit {0}
    IsRegister (InSlot m) = ⊥
Meets env count places (Limit n) p = IsPlainRegister env p × IsBelow p
  where
    IsBelow : Place → Type 0
    IsBelow NoPlace = ⊥
    IsBelow (InRegister r) = r.number < n
    IsBelow (InSlot m) = ⊥

-- the place of every operand of an instruction meets the operand's constraint
abbrev pub ConstraintsMet : FunctionValue → MachineValue → OutputValue → ℕ → Type 0
ConstraintsMet f env out i = (k : ℕ) → k < length (inst_at f i).operands →
    Meets env (length (inst_at f i).operands) (allocs_of out i) (op_at (inst_at f i).operands k).constraint (place_at (allocs_of out i) k)

-- a move between two stack places
abbrev pub IsStackToStack : MachineValue → MoveValue → Type 0
IsStackToStack env m = IsStackPlace env m.from × IsStackPlace env m.to

-- at each step of each path each use finds in its place the write that its vreg has, and there is one; constraints are met, and no move is stack-to-stack
pub record IsFaithful (f : FunctionValue) (env : MachineValue) (out : OutputValue) : Type 0 where
  pub reads : (ws : List Way) → IsPath f ws → (k : ℕ) → k < length (last_inst f ws).operands →
      let o : OperandValue = op_at (last_inst f ws).operands k in
      is_reading o ≡ true → IsSome (source_read f ws o) × (allocated_read f out ws k o ≡ source_read f ws o)
  pub constraints : (ws : List Way) → IsPath f ws → ConstraintsMet f env out (end_of f ws).inst
  pub moves : (ws : List Way) → IsPath f ws → All (λ m. IsStackToStack env m → ⊥) (moves_at f out (end_of f ws))
