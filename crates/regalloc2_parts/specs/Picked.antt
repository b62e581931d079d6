-- Operands selected by what they do, as contracts see them.
use Rattle.std.specs.Prelude.{ℕ, Bool, true, false, List, drop, filter}
use Rattle.std.specs.List.{enumerate_from}
use Rattle.regalloc2_names.specs.declared.OperandConstraint.{OperandConstraint}
use Rattle.regalloc2_names.specs.declared.OperandConstraint.TheVariants.{Any, Reg, Stack, FixedReg, Reuse, Limit}
use Rattle.regalloc2_names.specs.declared.OperandKind.{OperandKind}
use Rattle.regalloc2_names.specs.declared.OperandKind.TheVariants as kinds
use Rattle.regalloc2_names.specs.declared.OperandPos.{OperandPos}
use Rattle.regalloc2_names.specs.declared.OperandPos.TheVariants as positions
use Rattle.regalloc2_names.specs.Operand.{OperandValue, is_fixed_operand}
use Rattle.regalloc2_parts.specs.declared.iter.Pick.{Pick}
use Rattle.regalloc2_parts.specs.declared.iter.Pick.TheVariants as picks

abbrev pub is_def_kind : OperandKind → Bool
is_def_kind kinds.Def = true
is_def_kind kinds.Use = false

-- an operand that writes its vreg
abbrev pub is_def_operand : OperandValue → Bool
is_def_operand o = is_def_kind o.kind

abbrev pub is_use_kind : OperandKind → Bool
is_use_kind kinds.Def = false
is_use_kind kinds.Use = true

-- an operand that reads its vreg
abbrev pub is_use_operand : OperandValue → Bool
is_use_operand o = is_use_kind o.kind

abbrev pub stands_late : OperandPos → Bool
stands_late positions.Early = false
stands_late positions.Late = true

-- an operand that holds its place after the instruction's early part
abbrev pub is_late_operand : OperandValue → Bool
is_late_operand o = stands_late o.position

abbrev pub stands_early : OperandPos → Bool
stands_early positions.Early = true
stands_early positions.Late = false

-- an operand that holds its place in the instruction's early part
abbrev pub is_early_operand : OperandValue → Bool
is_early_operand o = stands_early o.position

abbrev pub asks_reuse : OperandConstraint → Bool
asks_reuse Any = false
asks_reuse Reg = false
asks_reuse Stack = false
asks_reuse (FixedReg r) = false
asks_reuse (Reuse i) = true
asks_reuse (Limit n) = false

-- an operand that takes the place of another operand
abbrev pub is_reuse_operand : OperandValue → Bool
is_reuse_operand o = asks_reuse o.constraint

abbrev pub asks_any_reg : OperandConstraint → Bool
asks_any_reg Any = false
asks_any_reg Reg = true
asks_any_reg Stack = false
asks_any_reg (FixedReg r) = false
asks_any_reg (Reuse i) = false
asks_any_reg (Limit n) = false

-- an operand that requires a register, any one
abbrev pub is_any_reg_operand : OperandValue → Bool
is_any_reg_operand o = asks_any_reg o.constraint

-- whether an operand is selected
abbrev pub accepts : Pick → OperandValue → Bool
accepts picks.Def o = is_def_operand o
accepts picks.Use o = is_use_operand o
accepts picks.Reuse o = is_reuse_operand o
accepts picks.Fixed o = is_fixed_operand o
accepts picks.AnyReg o = is_any_reg_operand o
accepts picks.Late o = is_late_operand o
accepts picks.Early o = is_early_operand o

-- the operands that pass a test, each with its index, in order: from the index i on
abbrev pub left_from : (OperandValue → Bool) → ℕ → List OperandValue → List (ℕ × OperandValue)
left_from test i operands = filter (λ x. test x.1) (enumerate_from i (drop i operands))

-- the operands that pass a test, each with its index, in order
abbrev pub picked : (OperandValue → Bool) → List OperandValue → List (ℕ × OperandValue)
picked test operands = filter (λ x. test x.1) (enumerate_from 0 operands)
