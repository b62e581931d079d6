use Rattle.std.proofs.Common.{sym, ap, ◌∙◌}
use Rattle.std.proofs.lemmas.Result.{err_from_is_err_and}
use Rattle.regalloc2_fastalloc_state.proofs.ValidateLemmas.OperandReads.{read_operand}
use Rattle.regalloc2_names.specs.Operand.{OperandValue}
use Rattle.regalloc2_fastalloc_walk.proofs.RegsReserved.{reserves_then}
use Rattle.regalloc2_fastalloc_walk.proofs.state.State.reserve_reg_for_operand.Goals as goal

pub returns-clause-outcome : goal.returns-clause-outcome
returns-clause-outcome g c = reserves_then c.in_ok-claim.ensures.outcome c.poke_fixed.ensures.early c.poke_fixed.ensures.late

pub returns-clause-unused : goal.returns-clause-unused
returns-clause-unused g c = λ never.
    let o = read_operand c.args.operands.now c.args.k c.index-operands-k.result c.requires c.index-operands-k.is in
    c.poke_fixed.ensures.unused (λ r e. never r (ap (λ (x : OperandValue). x.constraint) (sym o) ∙ e))

pub returns-in_err-claim-clause-outcome : goal.returns-in_err-claim-clause-outcome
returns-in_err-claim-clause-outcome g c =
    let e = err_from_is_err_and c.from_residual.result c.from_residual.ensures.1 in
    rw e.1 (λ lacks. c.in_err-claim.ensures.outcome (sym e.2 ∙ lacks))
