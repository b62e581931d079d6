use Rattle.regalloc2_function.specs.Views.{machine_of, output_of}
use Rattle.regalloc2_checker.proofs.NoErrorsIsFaithful.{report_verdict}
use Rattle.regalloc2_checker.proofs.checker.check_output.Goals as goal

pub returns-in-Ok-clause-verdict : goal.returns-in-Ok-clause-verdict
returns-in-Ok-clause-verdict g c =
    report_verdict (g.F.Function.function c.args.f.now) (machine_of c.args.env.now) (output_of c.args.out.now) c.in-Ok.errors.items c.requires c.in-Ok.ensures
