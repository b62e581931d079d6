use Rattle.std.proofs.Common.{List, subst}
use Rattle.std.specs.Prelude.{true}
use Rattle.regalloc2_function.specs.Numbers.{NumberSet}
use Rattle.regalloc2_checker_sets.specs.EntrySets.{all_sets, IsChangeOf, AreNotes}
use Rattle.regalloc2_checker_sets.proofs.Noted.{noted-at, memo-at}
use Rattle.regalloc2_checker_sets.proofs.sets.Sets.find_grown.Goals as goal

pub returns : goal.returns
returns g c n e =
    subst (λ (l : List NumberSet). IsChangeOf true l c.args.set c.args.bits n) c.self.view_is
    (noted-at (IsChangeOf true (all_sets c.self.inside.kept.items)) c.deref.result.now.grown c.args.set c.args.bits n
    (rw c.deref.ensures (memo-at (λ m. AreNotes (all_sets c.self.inside.kept.items) m.value.grown m.value.shrunk m.value.met)
    c.self.inside.memo _ c.in-Some.is c.self.invariant).puts) (c.find.ensures n e))
