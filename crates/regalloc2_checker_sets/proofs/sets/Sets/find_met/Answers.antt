use Rattle.std.proofs.Common.{List, subst}
use Rattle.regalloc2_function.specs.Numbers.{NumberSet}
use Rattle.regalloc2_checker_sets.specs.EntrySets.{all_sets, IsMeetOf, AreNotes}
use Rattle.regalloc2_checker_sets.proofs.Noted.{noted-at, memo-at}
use Rattle.regalloc2_checker_sets.proofs.sets.Sets.find_met.Goals as goal

pub returns : goal.returns
returns g c n e =
    subst (λ (l : List NumberSet). IsMeetOf l c.args.set c.args.other n) c.self.view_is
    (noted-at (IsMeetOf (all_sets c.self.inside.kept.items)) c.deref.result.now.met c.args.set c.args.other n
    (rw c.deref.ensures (memo-at (λ m. AreNotes (all_sets c.self.inside.kept.items) m.value.grown m.value.shrunk m.value.met)
    c.self.inside.memo _ c.in-Some.is c.self.invariant).meets) (c.find.ensures n e))
