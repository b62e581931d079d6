use Rattle.std.proofs.Common.{List, arith, ap, sym, ◌∙◌, refl, subst, ◌+◌}
use Rattle.regalloc2_function.specs.Numbers.{NumberSet}
use Rattle.regalloc2_checker_sets.specs.EntrySets.{has_bits, all_sets, AreNotes}
use Rattle.regalloc2_checker_sets.proofs.AllSets.{push-at, push-more}
use Rattle.regalloc2_checker_sets.proofs.Bits.{same-sets}
use Rattle.regalloc2_checker_sets.proofs.Noted.{memo-more}
use Rattle.std.specs.Prelude.{IfSome}
use Rattle.regalloc2_checker_sets.proofs.sets.Sets.keep.Goals as goal

pub returns-in_err-push-clause-more : goal.returns-in_err-push-clause-more
returns-in_err-push-clause-more g c =
    same-sets c.args.self.now (all_sets c.push.new.self.items) (ap (λ (l : List NumberSet). all_sets l) c.in_err-push.ensures.items ∙ c.self.view_is)

pub invariant_of-self : goal.invariant_of-self
invariant_of-self g c =
    subst (λ (l : List NumberSet). IfSome c.self.inside.memo (λ m. AreNotes (all_sets l) m.value.grown m.value.shrunk m.value.met))
    (sym c.in_err-push.ensures.items) c.self.invariant

pub invariant_of-self-2 : goal.invariant_of-self-2
invariant_of-self-2 g c =
    memo-more (λ m. m.value.grown) (λ m. m.value.shrunk) (λ m. m.value.met) c.self.inside.memo (all_sets c.self.inside.kept.items)
    (all_sets c.push.new.self.items)
    (push-more (all_sets c.self.inside.kept.items) c.self.inside.kept.items c.push.new.self.items c.args.set refl c.in_ok-push.ensures.items)
    c.self.invariant

pub returns-clause-more : goal.returns-clause-more
returns-clause-more g c = push-more c.args.self.now c.self.inside.kept.items c.push.new.self.items c.args.set c.self.view_is c.in_ok-push.ensures.items

pub returns-clause-found : goal.returns-clause-found
returns-clause-found g c =
    push-at c.self.inside.kept.items c.push.new.self.items c.args.set (2147483648 + c.in-Ok.index) (has_bits c.args.set) c.in_ok-push.ensures.items
    (omega (arith, c.in-Ok.ensures.1, c.len.ensures, c.self.inside.kept.ok.0)) (λ y. refl)
