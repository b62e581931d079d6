use Rattle.std.proofs.Common.{◌∙◌}
use Rattle.regalloc2_function.specs.Views.{machine_of, output_of}
use Rattle.regalloc2_checker.specs.ErrorsFound.{errors_of}
use Rattle.regalloc2_checker.specs.Prepared.{subject_of, machine_in}
use Rattle.regalloc2.proofs.CheckerErrorReasons.{same_found, checker_failure}
use Rattle.regalloc2.proofs.checked.judge.Goals as goal

pub returns-in-Err-clause-err : goal.returns-in-Err-clause-err
returns-in-Err-clause-err g c =
    let found = same_found g.F.Function.function (subject_of c.prepare.new.self) c.args.f.now (machine_in c.prepare.new.self) (machine_of c.args.env.now)
    (output_of c.args.out.now) (errors_of c.in-Err.errors)
    (c.prepare.ensures.subject ∙ c.in-Ok.ensures.ok.0) (c.prepare.ensures.machine ∙ c.in-Ok.ensures.ok.1)
    (c.in-Err.ensures.refused (output_of c.args.out.now) c.in-Ok-prepare.ensures.ok.1) in
    checker_failure (g.F.Function.function c.args.f.now) (machine_of c.args.env.now) (output_of c.args.out.now) c.in-Err.errors c.error_of.result found c.error_of.ensures
