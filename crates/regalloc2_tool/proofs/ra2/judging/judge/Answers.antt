use Rattle.std.proofs.Common.{ap, subst, ◌∙◌}
use Rattle.regalloc2_function.specs.OutputValue.{IsInOrder}
use Rattle.regalloc2_function.specs.Views.{output_of}
use Rattle.regalloc2_tool.proofs.Ra2Lemmas.FindingsWritten.{checker_refused, output_refused, errors_found, none_found}
use Rattle.regalloc2_tool.proofs.ra2.judging.judge.Goals as goal

pub returns-in-Err : goal.returns-in-Err
returns-in-Err g c = checker_refused c.write_finding.result _ _ _ _ _ c.in-Err.error c.in-Err.ensures.err c.write_finding.ensures

pub returns-in-Err-prepare : goal.returns-in-Err-prepare
returns-in-Err-prepare g c =
    output_refused c.write_finding-in-Err-prepare.result _ _ _ _ _ _ c.in-Err-prepare.error (ap g.F.Function.function c.in-Ok.ensures.ok.0)
    c.in-Err-prepare.ensures.err.1 c.write_finding-in-Err-prepare.ensures

pub returns-in-Ok-run : goal.returns-in-Ok-run
returns-in-Ok-run g c =
    none_found _ c.write_checked.result _ _ _ _ (output_of c.args.output.now) _ _ _
    (ap g.F.Function.function (c.in_default.ensures.subject ∙ c.in-Ok.ensures.ok.0)) (c.in_default.ensures.machine ∙ c.in-Ok.ensures.ok.1)
    c.in_default.ensures.ok.1
    (subst (λ x. IsInOrder (g.F.Function.function x) (output_of c.args.output.now)) c.in-Ok.ensures.ok.0 c.in_default.ensures.ok.0)
    c.in-Ok-run.ensures.accepted c.write_checked.ensures

pub returns-in-Err-run : goal.returns-in-Err-run
returns-in-Err-run g c =
    errors_found c.write_findings.result _ _ _ _ (output_of c.args.output.now) _ _ _ c.errors.result.now
    (ap g.F.Function.function (c.in_default.ensures.subject ∙ c.in-Ok.ensures.ok.0)) (c.in_default.ensures.machine ∙ c.in-Ok.ensures.ok.1)
    (c.in-Err-run.ensures.refused (output_of c.args.output.now) c.in_default.ensures.ok.1) c.errors.ensures.errors c.write_findings.ensures
