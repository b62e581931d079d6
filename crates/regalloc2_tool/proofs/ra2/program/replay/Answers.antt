use Rattle.regalloc2_function.specs.Views.{machine_of, output_of}
use Rattle.regalloc2_serialize.specs.Tables.{function_of_serializable}
use Rattle.regalloc2_tool.proofs.Ra2Lemmas.Outcomes.{verdict}
use Rattle.regalloc2_tool.proofs.ra2.program.replay.Goals as goal

pub judge-requires : goal.judge-requires
judge-requires g c = record { framed = c.in-Ok.ensures.ok.framed }

pub returns : goal.returns
returns g c = verdict (g.R.Read.remaining c.args.input) (function_of_serializable c.in-Ok.given.0) (machine_of c.in-Ok.given.0.machine)
    (machine_of c.machine_env.result.now) (output_of c.in-Ok.given.1) (g.O.Write.contents c.args.out.now) (g.O.Write.contents c.judge.new.out) c.judge.result
    c.ok.result c.in-Ok.ensures.ok c.machine_env.ensures c.ok.ensures.value c.judge.ensures
