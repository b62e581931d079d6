use Rattle.std.proofs.Common.{rules}
use Rattle.regalloc2_checker.proofs.find_errors.analyzed_errors.Goals as goal

pub analyze-requires : goal.analyze-requires
analyze-requires g c κs within = (
  search rules,
  (search rules, (search rules, (c.requires.1.1.1.0, (c.requires.1.1.1.1.0, (c.requires.1.1.1.1.1.0, c.requires.1.1.1.1.1.1))))),
)

pub check_all-requires : goal.check_all-requires
check_all-requires g c κs within =
    let s = c.in_ok-state.ensures in (
      search rules,
      (
        search rules,
        (
          c.requires.1.1.1.0,
          (c.requires.1.1.1.1.0, (s.named, (rw c.deref.ensures.value s.long, (s.count, rw c.deref.ensures.value s.solved)))),
        ),
      ),
    )

pub returns : goal.returns
returns g c = c.check_all.ensures
