use Rattle.std.proofs.Common.{sym}
use Rattle.regalloc2_names.specs.RegisterBits.{bits_of_vreg}
use Rattle.regalloc2_checker.proofs.TableSteps.{given-is, not-found}
use Rattle.regalloc2_checker.proofs.transfer.give.Goals as goal

pub returns-in_default-clause-now : goal.returns-in_default-clause-now
returns-in_default-clause-now g c =
    absurd (not-found c.args.values.now.vregs (bits_of_vreg c.args.param) (sym c.in_default.ensures.position) c.requires.param)

pub returns-clause-now : goal.returns-clause-now
returns-clause-now g c =
    given-is c.args.values.now c.give.new.self c.args.param c.in-Some.param c.args.places.now (sym c.in-Some.ensures.position) c.vreg_position.ensures.packed
    c.give.ensures.kept.places c.in_ok-give.ensures.now
