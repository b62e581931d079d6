use Rattle.regalloc2.specs.Views.{machine_of, output_of}
use Rattle.std.proofs.Common.{◌∙◌, sym, inr, subst}
use Rattle.regalloc2_c.specs.Faults.{IsErrorsFailure}
use Rattle.regalloc2_c.proofs.Verdicts.{no_errors, some_errors, told, unprepared}
use Rattle.regalloc2_c.proofs.judging.checked.Goals as goal

pub returns-then-is_empty-clause-ok : goal.returns-then-is_empty-clause-ok
returns-then-is_empty-clause-ok g c = (
  c.in-Ok.ensures.order,
  c.in-Ok.ensures.verdict.0 (no_errors c.in-Ok.errors.items _ (sym c.in-Ok.errors.ok.0) (sym c.is_empty.ensures ∙ c.if-is_empty.true)),
)

pub failure_of_errors-requires : goal.failure_of_errors-requires
failure_of_errors-requires g c = c.in-Ok.ensures.order

pub returns-else-is_empty-clause-err : goal.returns-else-is_empty-clause-err
returns-else-is_empty-clause-err g c =
    let some = some_errors c.in-Ok.errors.items _ (sym c.in-Ok.errors.ok.0) (sym c.is_empty.ensures ∙ c.if-is_empty.false) in
    told (g.F.Function.function c.args.f.now) (machine_of c.args.env.now) (output_of c.args.output.now) c.in-Ok.errors.items c.failure_of_errors.result
    c.in-Ok.ensures.order (inr (λ h. some (c.in-Ok.ensures.verdict.1 h), c.in-Ok.ensures.report))
    (subst (λ es. IsErrorsFailure (g.F.Function.function c.args.f.now) (output_of c.args.output.now) es c.failure_of_errors.result) c.deref.ensures.value
    c.failure_of_errors.ensures)

pub returns-in-Err-clause-err : goal.returns-in-Err-clause-err
returns-in-Err-clause-err g c =
    unprepared (g.F.Function.function c.args.f.now) (machine_of c.args.env.now) (output_of c.args.output.now) c.in-Err.error c.failure_to_prepare.result
    c.in-Err.ensures.err c.failure_to_prepare.ensures
