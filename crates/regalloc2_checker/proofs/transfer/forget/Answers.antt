use Rattle.std.proofs.Common.{sym}
use Rattle.regalloc2_names.specs.RegisterBits.{bits_of_vreg}
use Rattle.regalloc2_checker.proofs.TableSteps.{forgotten-is, not-found}
use Rattle.regalloc2_checker.proofs.transfer.forget.Goals as goal

pub returns-in_default-clause-now : goal.returns-in_default-clause-now
returns-in_default-clause-now g c =
    absurd (not-found c.args.values.now.vregs (bits_of_vreg c.args.vreg) (sym c.in_default.ensures.position) c.requires)

pub returns-clause-now : goal.returns-clause-now
returns-clause-now g c =
    forgotten-is c.args.values.now c.forget.new.self c.args.vreg c.in-Some.vreg (sym c.in-Some.ensures.position) c.forget.ensures.kept.places
    c.in_ok-forget.ensures.now
