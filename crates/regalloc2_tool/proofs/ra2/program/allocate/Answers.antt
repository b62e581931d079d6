use Rattle.std.proofs.Common.{sym, subst}
use Rattle.regalloc2_function.specs.Fitting.{MachineFits}
use Rattle.regalloc2_function.specs.Views.{machine_of}
use Rattle.regalloc2_serialize.specs.Tables.{function_of_serializable}
use Rattle.regalloc2_tool.proofs.Ra2Lemmas.Outcomes.{outcome}
use Rattle.regalloc2_tool.proofs.ra2.program.allocate.Goals as goal

pub show-requires : goal.show-requires
show-requires g c = record { machine = subst (λ m. MachineFits (function_of_serializable c.in-Ok.f) m) (sym c.machine_env.ensures) c.in-Ok.ensures.ok.fits }

pub returns : goal.returns
returns g c = outcome (g.R.Read.remaining c.args.input) c.args.task (function_of_serializable c.in-Ok.f) (machine_of c.in-Ok.f.machine)
    (machine_of c.machine_env.result.now) (g.O.Write.contents c.args.out.now) (g.O.Write.contents c.show.new.out) c.show.result c.ok.result
    c.in-Ok.ensures.ok c.machine_env.ensures c.ok.ensures.value c.show.ensures
