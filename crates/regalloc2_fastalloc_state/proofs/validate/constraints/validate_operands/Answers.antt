use Rattle.std.proofs.Common.{true, refl, inl, inr, ◌∙◌}
use Rattle.std.proofs.lemmas.Result.{err_from_is_err_and, IfErr-weaker}
use Rattle.regalloc2_fastalloc_state.proofs.ValidateLemmas.ValidatedProof.{on_ok_any, on_ok_if}
use Rattle.regalloc2_fastalloc_state.proofs.validate.constraints.validate_operands.Goals as goal

pub returns-then-all_pass_operand_tests-clause-unlimited : goal.returns-then-all_pass_operand_tests-clause-unlimited
returns-then-all_pass_operand_tests-clause-unlimited g c = c.all_pass_operand_tests.ensures.unlimited c.if-all_pass_operand_tests.true

pub returns-then-all_pass_operand_tests-clause-taken : goal.returns-then-all_pass_operand_tests-clause-taken
returns-then-all_pass_operand_tests-clause-taken g c = c.all_pass_operand_tests.ensures.taken c.if-all_pass_operand_tests.true

pub returns-then-all_pass_operand_tests-clause-branches : goal.returns-then-all_pass_operand_tests-clause-branches
returns-then-all_pass_operand_tests-clause-branches g c = c.all_pass_operand_tests.ensures.branches c.if-all_pass_operand_tests.true

pub returns-then-all_pass_operand_tests-clause-refused : goal.returns-then-all_pass_operand_tests-clause-refused
returns-then-all_pass_operand_tests-clause-refused g c = tt

pub returns-in_err-validate_limits-clause-refused : goal.returns-in_err-validate_limits-clause-refused
returns-in_err-validate_limits-clause-refused g c =
    let p = err_from_is_err_and c.from_residual.result c.from_residual.ensures.1 in
    let first = c.in_err-validate_limits.ensures.first in
    rw p.1 (first.0, p.2 ∙ first.1, inl first.2)

pub returns-clause-unlimited : goal.returns-clause-unlimited
returns-clause-unlimited g c = on_ok_any c.validate_branches.result (c.in_ok-validate_limits.ensures.ok.0 (refl {a = true}))

pub returns-clause-taken : goal.returns-clause-taken
returns-clause-taken g c = on_ok_any c.validate_branches.result c.in_ok-validate_limits.ensures.taken

pub returns-clause-branches : goal.returns-clause-branches
returns-clause-branches g c = on_ok_if c.validate_branches.result (c.validate_branches.ensures.ok.0)

pub returns-clause-refused : goal.returns-clause-refused
returns-clause-refused g c = IfErr-weaker c.validate_branches.result _ _
    (λ e first. (first.0, first.1, inr (c.in_ok-validate_limits.ensures.ok.0 (refl {a = true}), first.2))) c.validate_branches.ensures.first
