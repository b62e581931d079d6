use Rattle.regalloc2.specs.Views.{machine_of, output_of}
use Rattle.regalloc2_c.proofs.Verdicts.{apart, not_accepted}
use Rattle.regalloc2_c.proofs.judging.judge.Goals as goal

pub returns-in-Err-test_cells-clause-err : goal.returns-in-Err-test_cells-clause-err
returns-in-Err-test_cells-clause-err g c =
    apart (g.F.Function.function c.args.f.now) (machine_of c.args.env.now) (output_of c.args.output.now) c.in-Err-test_cells.fault c.failure_of_cells.result
    c.in-Ok.ensures.ok.0 c.in-Ok.ensures.ok.1 c.in-Err-test_cells.ensures.fault c.failure_of_cells.ensures

pub returns-in-Err-clause-err : goal.returns-in-Err-clause-err
returns-in-Err-clause-err g c =
    not_accepted (g.F.Function.function c.args.f.now) (machine_of c.args.env.now) (output_of c.args.output.now) c.in-Err.failure c.in-Err.ensures.err
