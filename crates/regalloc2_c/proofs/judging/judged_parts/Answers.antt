use Rattle.regalloc2.specs.Views.{machine_of, output_of}
use Rattle.regalloc2_c.specs.Outcome.{ArePartsOf}
use Rattle.regalloc2_c.proofs.Verdicts.{accepted_of, if_err, no_output, on_ok, rejected_of}
use Rattle.regalloc2_c.proofs.judging.judged_parts.Goals as goal

pub returns-in-Err-clause-err : goal.returns-in-Err-clause-err
returns-in-Err-clause-err g c =
    no_output (ArePartsOf c.args.parts.num_spillslots c.args.parts.moves.now c.args.parts.places.now c.args.parts.offsets.now)
    (g.F.Function.function c.args.f.now) (machine_of c.args.env.now) c.in-Err.failure c.in-Err.ensures.err

pub returns-clause-ok : goal.returns-clause-ok
returns-clause-ok g c =
    on_ok (accepted_of (ArePartsOf c.args.parts.num_spillslots c.args.parts.moves.now c.args.parts.places.now c.args.parts.offsets.now)
    (g.F.Function.function c.args.f.now) (machine_of c.args.env.now) (output_of c.in-Ok.output) c.in-Ok.ensures.ok)
    c.judge.result c.judge.ensures.ok

pub returns-clause-err : goal.returns-clause-err
returns-clause-err g c =
    if_err (λ e. rejected_of (ArePartsOf c.args.parts.num_spillslots c.args.parts.moves.now c.args.parts.places.now c.args.parts.offsets.now)
    (g.F.Function.function c.args.f.now) (machine_of c.args.env.now) (output_of c.in-Ok.output) e c.in-Ok.ensures.ok)
    c.judge.result c.judge.ensures.err
