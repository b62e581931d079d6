use Rattle.std.proofs.Common.{sym}
use Rattle.regalloc2_names.specs.RegisterBits.{bits_of_vreg}
use Rattle.regalloc2_checker.proofs.TableSteps.{holders-are, not-found}
use Rattle.regalloc2_checker.proofs.transfer.holders.Goals as goal

pub returns-in_default : goal.returns-in_default
returns-in_default g c = absurd (not-found c.args.values.now.vregs (bits_of_vreg c.args.vreg) (sym c.in_default.ensures.position) c.requires)

pub returns : goal.returns
returns g c =
    holders-are c.args.values.now c.args.vreg c.in-Some.vreg c.in_ok-found.found.items (sym c.in-Some.ensures.position) c.vreg_position.ensures.packed
    c.in_ok-found.ensures
