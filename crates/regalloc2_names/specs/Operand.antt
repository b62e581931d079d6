-- Operands, as contracts see them.
use Rattle.std.specs.Prelude.{Bool, true, false, not, ◌&&◌, nat_eq, Option, None, Some, if◌then◌else◌}
use Rattle.regalloc2_names.specs.declared.OperandConstraint.{OperandConstraint}
use Rattle.regalloc2_names.specs.declared.OperandConstraint.TheVariants.{Any, Reg, Stack, FixedReg, Reuse, Limit}
use Rattle.regalloc2_names.specs.declared.OperandKind.{OperandKind}
use Rattle.regalloc2_names.specs.declared.OperandKind.TheVariants.{Def, Use}
use Rattle.regalloc2_names.specs.declared.OperandPos.{OperandPos}
use Rattle.regalloc2_names.specs.declared.OperandPos.TheVariants.{Early, Late}
use Rattle.regalloc2_names.specs.Register.{Register, VirtualRegister}

-- what an instruction does with a virtual register (vreg)
pub record OperandValue : Type 0 where
  pub vreg : VirtualRegister
  pub constraint : OperandConstraint
  pub kind : OperandKind
  pub position : OperandPos

-- the fixed register of a constraint, if it has one
abbrev pub fixed_register : OperandConstraint → Option Register
fixed_register Any = None
fixed_register Reg = None
fixed_register Stack = None
fixed_register (FixedReg r) = Some r
fixed_register (Reuse i) = None
fixed_register (Limit n) = None

-- the fixed register of an operand without a vreg, which the greatest number marks
abbrev pub nonallocatable_register : OperandValue → Option Register
nonallocatable_register o = if nat_eq o.vreg.number 1073741823 then fixed_register o.constraint else None

-- an operand of the kind is written, not read
abbrev pub is_def : OperandKind → Bool
is_def Def = true
is_def Use = false

-- an operand at the position is read or written at the end of its instruction
abbrev pub is_late : OperandPos → Bool
is_late Early = false
is_late Late = true

-- the positions are equal
abbrev pub is_position : OperandPos → OperandPos → Bool
is_position Early Early = true
is_position Early Late = false
is_position Late Early = false
is_position Late Late = true

-- the constraint requires a fixed register
abbrev pub is_fixed : OperandConstraint → Bool
is_fixed Any = false
is_fixed Reg = false
is_fixed Stack = false
is_fixed (FixedReg r) = true
is_fixed (Reuse n) = false
is_fixed (Limit n) = false

-- the constraint requires a register whose number is below a bound
abbrev pub is_limit : OperandConstraint → Bool
is_limit Any = false
is_limit Reg = false
is_limit Stack = false
is_limit (FixedReg r) = false
is_limit (Reuse n) = false
is_limit (Limit n) = true

-- the operand requires a fixed register
abbrev pub is_fixed_operand : OperandValue → Bool
is_fixed_operand o = is_fixed o.constraint

-- the operand has a limit
abbrev pub is_limited_operand : OperandValue → Bool
is_limited_operand o = is_limit o.constraint

-- the operand has a fixed register, and the number that marks no vreg
abbrev pub is_fixed_nonallocatable : OperandValue → Bool
is_fixed_nonallocatable o = is_fixed o.constraint && nat_eq o.vreg.number 1073741823

-- the operand reads its vreg
abbrev pub is_reading : OperandValue → Bool
is_reading o = not (is_def o.kind) && not (is_fixed_nonallocatable o)

-- the operand reads its vreg at the position
abbrev pub reads_at : OperandPos → OperandValue → Bool
reads_at position o = is_reading o && is_position position o.position
