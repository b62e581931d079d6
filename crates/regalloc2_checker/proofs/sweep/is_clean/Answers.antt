use Rattle.std.proofs.Common.{rules}
use Rattle.regalloc2_checker.proofs.sweep.is_clean.Goals as goal

pub pass_all_on-requires : goal.pass_all_on-requires
pass_all_on-requires g c κs within = (
  search rules,
  (
    search rules,
    (c.requires.1.1.1.0, (c.requires.1.1.1.1.0, rw c.requires.1.1.1.1.1.0 at (c.in_ok-sweep.ensures c.args.slots))),
  ),
)
