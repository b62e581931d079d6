use Rattle.std.proofs.Common.{◌∙◌, sym}
use Rattle.regalloc2_function.specs.Fitting.{MachineFits}
use Rattle.regalloc2_function.specs.Views.{machine_of}
use Rattle.regalloc2_function.proofs.Misfits.{ok_iff}
use Rattle.regalloc2_function.proofs.machine.machine_fits.Goals as goal

pub returns : goal.returns
returns g c =
    let iff = ok_iff c.test_machine.result (MachineFits (g.F.Function.function c.args.f.now) (machine_of c.args.env.now)) c.test_machine.ensures.ok
    c.test_machine.ensures.err in
    (λ t. iff.0 (sym c.is_ok.ensures.value ∙ t), λ fits. c.is_ok.ensures.value ∙ iff.1 fits)
