use Rattle.std.proofs.Common.{ap, cond, nat_eq, true, sym, ◌∙◌}
use Rattle.std.specs.Option.{is_some}
use Rattle.regalloc2_function.specs.Numbers.{NumberSet, has_number}
use Rattle.regalloc2_checker_sets.proofs.MoreLaws.{none-has}
use Rattle.regalloc2_checker_sets.proofs.more_places.add_other.Goals as goal

pub returns-clause-ok : goal.returns-clause-ok
returns-clause-ok g c i =
    let none = none-has (λ b. b.value) c.args.others.now (ap is_some c.in_default.is) i in
    ap (λ (s : NumberSet). has_number s i) c.in_ok-new.ensures.ok ∙ c.in_ok-set.ensures.ok i
    ∙ ap (λ b. cond (nat_eq i c.args.place) true b) (c.new-set.ensures i ∙ sym none)
