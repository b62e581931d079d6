use Rattle.std.proofs.Common.{◌≡◌, true, false, refl, sym, subst}
use Rattle.regalloc2_function.specs.Fitting.{MachineFits}
use Rattle.regalloc2_function.specs.Views.{machine_of}
use Rattle.regalloc2_serialize.specs.Tables.{function_of_serializable}
use Rattle.regalloc2_tool.proofs.ra2.reading.fitting.Goals as goal

pub returns-in-Err-clause-err : goal.returns-in-Err-clause-err
returns-in-Err-clause-err g c = λ bytes text. (c.args.stored.now, text, c.in-Err.ensures.refused)

pub returns-then-not-machine_fits-clause-err : goal.returns-then-not-machine_fits-clause-err
returns-then-not-machine_fits-clause-err g c = λ bytes text. (
  function_of_serializable c.in-Ok.f,
  machine_of c.in-Ok.f.machine,
  record {
    stored = c.args.stored.now;
    text = text;
    sound = c.in-Ok.ensures.sound;
    function = c.in-Ok.ensures.function;
    machine = c.in-Ok.ensures.machine;
  },
  λ fits. let e : false ≡ true = c.if-not-machine_fits.ensures.1 (subst (λ m. MachineFits (function_of_serializable c.in-Ok.f) m) (sym c.machine_env.ensures) fits) in
      absurd cc,
)

pub returns-clause-ok : goal.returns-clause-ok
returns-clause-ok g c = λ bytes text. record {
  named = record {
    stored = c.args.stored.now;
    text = text;
    sound = c.in-Ok.ensures.sound;
    function = c.in-Ok.ensures.function;
    machine = c.in-Ok.ensures.machine;
  };
  fits = subst (λ m. MachineFits (function_of_serializable c.in-Ok.f) m) c.machine_env.ensures (c.if-not-machine_fits.ensures.0 refl);
}
