-- Fixed registers of well-formed instructions avoid clobbers.
use Rattle.std.proofs.Common.{◌≡◌, true, refl, sym, ap, ◌∙◌, inl, inr, ◌⊎◌, ⊎_elim}
use Rattle.std.specs.Prelude.{◌||◌}
use Rattle.regalloc2_names.specs.declared.OperandKind.{OperandKind}
use Rattle.regalloc2_names.specs.declared.OperandKind.TheVariants.{Def, Use}
use Rattle.regalloc2_names.specs.declared.OperandPos.{OperandPos}
use Rattle.regalloc2_names.specs.declared.OperandPos.TheVariants.{Early, Late}
use Rattle.regalloc2_function.specs.FunctionValue.{InstValue, op_at}
use Rattle.regalloc2_names.specs.Operand.{is_def, is_late}
use Rattle.regalloc2_function.specs.WellFormed.{FixedAvoidClobbers}
use Rattle.regalloc2_fastalloc_state.specs.declared.positions.Positions.{Positions}
use Rattle.regalloc2_fastalloc_proofs.specs.InstSteps.{own, named}
use Rattle.regalloc2_fastalloc_proofs.proofs.Inst.BoundaryToFirstOperand.{AvoidClobbers}

late_kind : (k : OperandKind) (p : OperandPos) → (is_def k || is_late p) ≡ true → (k ≡ Def) ⊎ (p ≡ Late)
late_kind Def p h = inl refl
late_kind Use Late h = inr refl
late_kind Use Early h = absurd cc

-- in a well-formed instruction no register that is reserved at the late position is a clobber
pub avoids : (i : InstValue) → FixedAvoidClobbers i → AvoidClobbers i.operands i.clobbers
avoids i h k r p lt (own able fixed at) late = h k lt r fixed
    (⊎_elim (λ e. inl e) (λ e. inr (inl e)) (late_kind (op_at i.operands k).kind (op_at i.operands k).position
    (ap (λ (x : Positions). x.late) (sym at) ∙ late)))
avoids i h k r p lt (named n reuse within fixed at) late = h n within r fixed (inr (inr (k, lt, reuse)))
