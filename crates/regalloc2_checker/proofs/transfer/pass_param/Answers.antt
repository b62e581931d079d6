use Rattle.std.proofs.Common.{sym}
use Rattle.regalloc2_names.specs.RegisterBits.{bits_of_vreg}
use Rattle.regalloc2_checker.proofs.TableSteps.{passed-is, not-found}
use Rattle.regalloc2_checker.proofs.transfer.pass_param.Goals as goal

pub returns-in_default-clause-now : goal.returns-in_default-clause-now
returns-in_default-clause-now g c =
    absurd (not-found c.args.values.now.vregs (bits_of_vreg c.args.param) (sym c.in_default.ensures.position) c.requires.param)

pub returns-in_default-vreg_position-clause-now : goal.returns-in_default-vreg_position-clause-now
returns-in_default-vreg_position-clause-now g c =
    absurd (not-found c.args.values.now.vregs (bits_of_vreg c.args.argument) (sym c.in_default-vreg_position.ensures.position) c.requires.argument)

pub returns-clause-now : goal.returns-clause-now
returns-clause-now g c =
    passed-is c.args.values.now c.pass.new.self c.args.param c.args.argument c.in-Some.param c.in-Some-vreg_position.argument (sym c.in-Some.ensures.position)
    (sym c.in-Some-vreg_position.ensures.position) c.vreg_position.ensures.packed c.vreg_position-2.ensures.packed c.pass.ensures.kept.places
    c.in_ok-pass.ensures.now
