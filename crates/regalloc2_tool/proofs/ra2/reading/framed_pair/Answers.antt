use Rattle.std.proofs.Common.{sym, subst}
use Rattle.std.proofs.lemmas.Result.{err_from_is_err_and}
use Rattle.regalloc2_function.specs.Views.{machine_of}
use Rattle.regalloc2_serialize.specs.Tables.{function_of_serializable}
use Rattle.regalloc2_tool.proofs.Ra2Lemmas.TextReadings.{IsPairFaultOf, pair_fault}
use Rattle.regalloc2_tool.proofs.ra2.reading.framed_pair.Goals as goal

pub returns-in-Err-clause-err : goal.returns-in-Err-clause-err
returns-in-Err-clause-err g c = λ bytes text. (c.args.stored.now, c.args.stored_output.now, text, c.in-Err.ensures.refused)

pub returns-in_err-output-clause-err : goal.returns-in_err-output-clause-err
returns-in_err-output-clause-err g c =
    let p = err_from_is_err_and c.from_residual.result c.from_residual.ensures.1 in
    rw p.1 (subst (IsPairFaultOf c.args.stored.now c.args.stored_output.now) (sym p.2) (pair_fault c.args.stored.now c.args.stored_output.now
    (function_of_serializable c.in-Ok.f) (machine_of c.in-Ok.f.machine) _ c.in-Ok.ensures.sound c.in-Ok.ensures.function c.in-Ok.ensures.machine
    c.in_err-output.ensures.err))

pub returns-clause-ok : goal.returns-clause-ok
returns-clause-ok g c = λ bytes text. record {
  named = record {
    stored = c.args.stored.now;
    stored_output = c.args.stored_output.now;
    text = text;
    sound = c.in-Ok.ensures.sound;
    function = c.in-Ok.ensures.function;
    machine = c.in-Ok.ensures.machine;
    names = c.in_ok-output.ensures.ok.0;
    output = c.in_ok-output.ensures.ok.1;
  };
  framed = c.in_ok-output.ensures.ok.2;
}
