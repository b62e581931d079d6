use Rattle.std.proofs.Common.{List, sym, subst, ◌∙◌}
use Rattle.std.specs.Prelude.{true}
use Rattle.regalloc2_function.specs.Numbers.{NumberSet}
use Rattle.regalloc2_checker_sets.specs.EntrySets.{all_sets, IsChangeOf, AreNotes}
use Rattle.regalloc2_checker_sets.proofs.Noted.{noted-one, memo-at}
use Rattle.regalloc2_checker_sets.proofs.sets.Sets.note_grown.Goals as goal

pub invariant_of-self : goal.invariant_of-self
invariant_of-self g c = c.self.invariant

pub invariant_of-self-2 : goal.invariant_of-self-2
invariant_of-self-2 g c =
    let was = memo-at (λ m. AreNotes (all_sets c.self.inside.kept.items) m.value.grown m.value.shrunk m.value.met)
    c.self.inside.memo _ c.in-Some.is c.self.invariant in
    record {
      puts = noted-one (IsChangeOf true (all_sets c.self.inside.kept.items)) c.deref_mut.result.now.grown c.note.new.self c.args.set c.args.bits
          c.args.number (subst (λ (l : List NumberSet). IsChangeOf true l c.args.set c.args.bits c.args.number) (sym (c.self.view_is ∙ c.make_memo.ensures))
          c.requires) (rw c.deref_mut.ensures.value was.puts) c.note.ensures;
      takes = rw c.deref_mut.ensures.value was.takes;
      meets = rw c.deref_mut.ensures.value was.meets;
    }

pub returns : goal.returns
returns g c = c.self.view_is ∙ c.make_memo.ensures
