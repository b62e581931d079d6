-- The function that is being allocated, as contracts see it.
-- Its parts are what the methods of upstream's trait `Function` return.
use Rattle.std.specs.Prelude.{ℕ, ◌<◌, ◌≤◌, ◌^◌, Bool, false, IsTrue, List, [], ◌∷◌, length, slice_index_or, sum_by, All, ◌-◌}
use Rattle.std.specs.Int.{is_power_of_two}
use Rattle.regalloc2_index.specs.Range.{invalid_number, Span}
use Rattle.regalloc2_names.specs.declared.RegClass.{RegClass}
use Rattle.regalloc2_names.specs.declared.RegClass.TheVariants.{Int, Float, Vector}
use Rattle.regalloc2_names.specs.declared.sets.PRegSet.{PRegSet}
use Rattle.regalloc2_names.specs.declared.OperandConstraint.TheVariants.{Any}
use Rattle.regalloc2_names.specs.declared.OperandKind.TheVariants.{Use}
use Rattle.regalloc2_names.specs.declared.OperandPos.TheVariants.{Early}
use Rattle.regalloc2_names.specs.Place.{slot_limit, inst_limit}
use Rattle.regalloc2_names.specs.Register.{VirtualRegister, vreg_limit}
use Rattle.regalloc2_names.specs.Operand.{OperandValue}

-- an instruction
pub record InstValue : Type 0 where
  pub operands : List OperandValue
  pub clobbers : PRegSet
  pub is_branch : Bool
  pub is_ret : Bool

-- a basic block; the arguments are listed by the position of their successor
pub record BlockValue : Type 0 where
  pub range : Span
  pub succs : List ℕ
  pub preds : List ℕ
  pub params : List VirtualRegister
  pub arguments : List (List VirtualRegister)

-- how many units a slot of each class takes
pub record SlotSizes : Type 0 where
  pub int : ℕ
  pub float : ℕ
  pub vector : ℕ

-- that of a class
abbrev pub slot_size : SlotSizes → RegClass → ℕ
slot_size s Int = s.int
slot_size s Float = s.float
slot_size s Vector = s.vector

-- a label of a vreg, from an instruction up to another
pub record Label : Type 0 where
  pub vreg : VirtualRegister
  pub start : ℕ
  pub end : ℕ
  pub label : ℕ

-- a function
pub record FunctionValue : Type 0 where
  pub blocks : List BlockValue
  pub insts : List InstValue
  pub entry : ℕ
  pub num_vregs : ℕ
  pub slot_sizes : SlotSizes
  pub named_by_last_slot : Bool
  pub labels : List Label
  pub allows_multiple_defs : Bool

-- a block that no function has
abbrev pub no_block : BlockValue
no_block = record { range = record { first = 0; end = 0 }; succs = []; preds = []; params = []; arguments = [] }

-- the block of a number
abbrev pub block_at : FunctionValue → ℕ → BlockValue
block_at f b = slice_index_or f.blocks b no_block

-- an instruction that no function has
abbrev pub no_inst : InstValue
no_inst = record { operands = []; clobbers = record { bits = 0 ∷ 0 ∷ 0 ∷ [] }; is_branch = false; is_ret = false }

-- the instruction of a number
abbrev pub inst_at : FunctionValue → ℕ → InstValue
inst_at f i = slice_index_or f.insts i no_inst

-- how many operands the instructions have in all
abbrev pub operand_count : FunctionValue → ℕ
operand_count f = sum_by (λ i. length i.operands) f.insts

-- the operands of functions that can be allocated are fewer
abbrev pub operand_limit : ℕ
operand_limit = 2 ^ 32

-- a label as a client gives it
abbrev pub label_of : (VirtualRegister × ℕ × ℕ × ℕ) → Label
label_of l = record { vreg = l.0; start = l.1; end = l.2; label = l.3 }

-- the size of a spill slot: a power of two from 1 to 2^24
pub record IsSlotSize (size : ℕ) : Type 0 where
  pub positive : 1 ≤ size
  pub at_most : size ≤ slot_limit
  pub power_of_two : IsTrue (is_power_of_two size)

-- the limits that each implementation keeps
pub record IsLimited (f : FunctionValue) : Type 0 where
  pub insts : length f.insts < inst_limit
  pub blocks : length f.blocks < invalid_number
  pub vregs : f.num_vregs < vreg_limit
  pub slot_sizes : (class : RegClass) → IsSlotSize (slot_size f.slot_sizes class)
  pub labels : All (λ l. l.vreg.number < f.num_vregs) f.labels

-- an operand that no instruction has
abbrev pub no_operand : OperandValue
no_operand = record { vreg = record { number = 0; class = Int }; constraint = Any; kind = Use; position = Early }

-- the operand of an index
abbrev pub op_at : List OperandValue → ℕ → OperandValue
op_at operands k = slice_index_or operands k no_operand

-- each block of a function
abbrev pub EachBlock : FunctionValue → (ℕ → BlockValue → Type 0) → Type 0
EachBlock f P = (b : ℕ) → b < length f.blocks → P b (block_at f b)

-- each operand of an instruction, with its index
abbrev pub EachOperand : InstValue → (ℕ → OperandValue → Type 0) → Type 0
EachOperand i P = (k : ℕ) → k < length i.operands → P k (op_at i.operands k)

-- each instruction of a block
abbrev pub EachInst : FunctionValue → BlockValue → (ℕ → InstValue → Type 0) → Type 0
EachInst f b P = (i : ℕ) → b.range.first ≤ i → i < b.range.end → P i (inst_at f i)

-- the last instruction of a block
abbrev pub last_of : BlockValue → ℕ
last_of b = b.range.end - 1
