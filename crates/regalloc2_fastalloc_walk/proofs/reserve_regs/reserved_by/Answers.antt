use Rattle.std.proofs.Common.{refl, sym, ap, ◌∙◌}
use Rattle.regalloc2_names.specs.Operand.{OperandValue}
use Rattle.regalloc2_fastalloc_proofs.specs.InstSteps.{named}
use Rattle.regalloc2_fastalloc_state.proofs.ValidateLemmas.OperandReads.{read_operand}
use Rattle.regalloc2_fastalloc_walk.proofs.reserve_regs.reserved_by.Goals as goal

pub returns-in_ok-preg-in-Reuse-clause-some : goal.returns-in_ok-preg-in-Reuse-clause-some
returns-in_ok-preg-in-Reuse-clause-some c =
    let s = c.in_ok-preg-in-Reuse.ensures.some in
    let is = read_operand c.args.operands.now c.args.k c.index-operands-k.result c.requires c.index-operands-k.is in
    named s.0 (ap (λ (o : OperandValue). o.constraint) (sym is) ∙ s.1) s.2 s.3 refl
