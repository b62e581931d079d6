use Rattle.std.proofs.Common.{◌≡◌, true, false, cond, get_or, ap, ◌∙◌}
use Rattle.std.proofs.lemmas.Bool.{ne_eqb}
use Rattle.regalloc2_function.specs.Numbers.{NumberSet, has_number}
use Rattle.regalloc2_checker_sets.proofs.MoreLaws.{lacks-at}
use Rattle.regalloc2_checker_sets.proofs.Results.{less_either}
use Rattle.regalloc2_checker_sets.proofs.more_places.remove_all.Goals as goal

pub loop-place-init : goal.loop-place-init
loop-place-init g c i not is = rw c.in-Some.is at is

pub loop-place-preserved : goal.loop-place-preserved
loop-place-preserved g c i not is =
    let place = get_or c.args.places.now c.loop-place.place-index 0 in
    let had : has_number c.deref_mut.result.now i ≡ true = ap (λ (s : NumberSet). has_number s i) c.deref_mut.ensures.value ∙ c.loop-place.invariant i not is in
    less_either _ _ (has_number c.set.new.self i ≡ true) c.set.result
    (λ ok. ok i ∙ ap (λ b. cond b false (has_number c.deref_mut.result.now i))
    (ne_eqb i place (lacks-at c.args.places.now c.loop-place.place-index i c.loop-place-test.true not)) ∙ had)
    (λ err. ap (λ (s : NumberSet). has_number s i) err ∙ had) c.set.ensures.ok c.set.ensures.err

pub returns : goal.returns
returns g c = c.loop-place.invariant
