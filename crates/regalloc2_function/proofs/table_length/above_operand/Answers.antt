use Rattle.std.proofs.Common.{◌+◌, ◌≤◌, ◌∙◌, inl, inr, sym, subst, arith}
use Rattle.regalloc2_names.specs.Register.{VirtualRegister}
use Rattle.regalloc2_function.proofs.table_length.above_operand.Goals as goal

pub returns-then-is_def-clause-near : goal.returns-then-is_def-clause-near
returns-then-is_def-clause-near c = elim c.above_vreg.ensures.near [
  | inl low ↦ inl low
  | inr at ↦ inr (
    sym c.is_def.ensures ∙ c.if-is_def.true,
    subst (λ (v : VirtualRegister). c.above_vreg.result ≤ v.number + 1) c.vreg.ensures at,
  )
]

pub returns-else-is_def-clause-near : goal.returns-else-is_def-clause-near
returns-else-is_def-clause-near c = inl (omega arith)
