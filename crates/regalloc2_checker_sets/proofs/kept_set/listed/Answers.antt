use Rattle.std.proofs.Common.{ℕ, List, [], ◌∷◌, ◌++◌, arith, ap, ◌∙◌}
use Rattle.regalloc2_function.specs.Numbers.{times_listed}
use Rattle.regalloc2_checker_sets.proofs.Bits.{listed-none, listed-more, listed-skip, listed-all}
use Rattle.regalloc2_checker_sets.proofs.Walked.{walked-on}
use Rattle.regalloc2_checker_sets.proofs.kept_set.listed.Goals as goal

pub loop-member-init : goal.loop-member-init
loop-member-init g c = record {
  all = λ i. ap (λ (l : List ℕ). times_listed l i) c.into_iter-member-iterator.ensures.into_iter_gives ∙ c.iter-member-items.ensures i;
  members = listed-none c.new-members.result.items c.new-members.ensures.items;
}

pub loop-member-preserved-in_default : goal.loop-member-preserved-in_default
loop-member-preserved-in_default g c = record {
  all = walked-on c.args.set.now c.loop-member.yielded c.loop-member.member-iterator c.next.new.self c.in-Some.member c.loop-member.invariant.all
      c.in-Some.ensures.steps;
  members = listed-skip c.loop-member.members.items c.loop-member.yielded c.in-Some.member (let h = c.in_default.ensures in omega arith)
      c.loop-member.invariant.members;
}

pub loop-member-preserved : goal.loop-member-preserved
loop-member-preserved g c = let h = c.in_ok-push.ensures.items in record {
  all = walked-on c.args.set.now c.loop-member.yielded c.loop-member.member-iterator c.next.new.self c.in-Some.member c.loop-member.invariant.all
      c.in-Some.ensures.steps;
  members = λ y. ap (λ (l : List ℕ). times_listed l y) (h ∙ ap (λ b. c.loop-member.members.items ++ b ∷ []) c.in-Ok.ensures.1)
      ∙ listed-more c.loop-member.members.items c.loop-member.yielded c.in-Some.member c.in-Ok.ensures.0 c.loop-member.invariant.members y;
}

pub returns : goal.returns
returns g c = listed-all c.args.set.now c.loop-member.members.items c.loop-member.yielded c.loop-member.member-iterator c.loop-member.invariant.all
    c.in-None.ensures.steps.0 c.loop-member.invariant.members
