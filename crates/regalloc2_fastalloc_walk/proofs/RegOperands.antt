-- Operands under `Reg`.
use Rattle.std.proofs.Common.{ℕ, ◌≡◌, false, sym, ap, ◌∙◌}
use Rattle.std.specs.Prelude.{◌&&◌, nat_eq}
use Rattle.regalloc2_names.specs.declared.OperandConstraint.{OperandConstraint}
use Rattle.regalloc2_names.specs.declared.OperandConstraint.TheVariants.{Reg, Reuse}
use Rattle.regalloc2_names.specs.Operand.{OperandValue, is_fixed, is_fixed_nonallocatable}

-- an operand under `Reg` names a vreg
pub reg_not_nonallocatable : (o : OperandValue) → o.constraint ≡ Reg → is_fixed_nonallocatable o ≡ false
reg_not_nonallocatable o reg = ap (λ (c : OperandConstraint). is_fixed c && nat_eq o.vreg.number 1073741823) reg

-- an operand under `Reg` is no reuse
pub reg_no_reuse : (o : OperandValue) (n : ℕ) → o.constraint ≡ Reg → o.constraint ≡ Reuse n → ⊥
reg_no_reuse o n reg e = (let wrong : Reg ≡ Reuse n = sym reg ∙ e in cc)
