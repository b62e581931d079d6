use Rattle.std.proofs.Common.{List, ℕ, arith, subst, sym, refl}
use Rattle.regalloc2_checker_sets.specs.EntrySets.{all_sets}
use Rattle.regalloc2_checker_sets.specs.Renumbering.{AreMarkedKept}
use Rattle.regalloc2_checker_sets.proofs.MovedDown.{marked-kept, written-back}
use Rattle.regalloc2_checker_sets.proofs.sets.Sets.keep_marked.Goals as goal

pub returns-clause-kept : goal.returns-clause-kept
returns-clause-kept g c =
    subst (λ (xs : List ℕ). AreMarkedKept c.args.marks.now c.args.self.now (all_sets c.move_down.new.kept.items) xs)
    (sym (written-back c.move_down.new.numbers c.in_ok-numbers.numbers.items c.in_ok-numbers.numbers.len
    (omega (arith, c.move_down.ensures.long, c.deref_mut.ensures.len, c.in_ok-numbers.numbers.ok.0))))
    (marked-kept c.args.marks.now c.args.self.now c.self.inside.kept.items c.move_down.new.kept.items c.move_down.new.numbers _ _ c.self.view_is refl refl
    c.move_down.ensures.moved)
