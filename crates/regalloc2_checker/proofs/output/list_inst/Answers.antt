use Rattle.std.proofs.Common.{refl}
use Rattle.regalloc2_checker.proofs.output.list_inst.Goals as goal

pub returns : goal.returns
returns g c = record { last = _; whole = c.in_ok-push.ensures.items; from_is = refl; end_is = refl }
