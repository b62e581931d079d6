use Rattle.std.proofs.Common.{ℕ, List, [], get_or, arith, true, ap, sym, ◌∙◌, cond, nat_eq}
use Rattle.regalloc2_function.specs.Numbers.{times_listed, has_number}
use Rattle.regalloc2_checker_sets.specs.EntrySets.{is_member}
use Rattle.regalloc2_checker_sets.proofs.Bits.{both-more, both-none, both-skip, both-all, bits-out}
use Rattle.regalloc2_checker_sets.proofs.Walked.{walked-on}
use Rattle.regalloc2_checker_sets.proofs.sets.Sets.intersection.Goals as goal

pub loop-member-init : goal.loop-member-init
loop-member-init g c = record {
  all = λ i. ap (λ (l : List ℕ). times_listed l i) c.into_iter-member-iterator.ensures.into_iter_gives ∙ c.iter-member-items.ensures i;
  both = both-none c.new-both.result (get_or c.args.self.now c.args.other []) c.new-both.ensures;
}

pub loop-member-preserved-in_default : goal.loop-member-preserved-in_default
loop-member-preserved-in_default g c = record {
  all = walked-on c.args.set.now c.loop-member.yielded c.loop-member.member-iterator c.next.new.self c.in-Some.member c.loop-member.invariant.all
      c.in-Some.ensures.steps;
  both = both-skip c.loop-member.both (get_or c.args.self.now c.args.other []) c.loop-member.yielded c.in-Some.member
      (bits-out (get_or c.args.self.now c.args.other []) c.in-Some.member (let h = c.in_default.ensures in omega arith)) c.loop-member.invariant.both;
}

pub loop-member-preserved : goal.loop-member-preserved
loop-member-preserved g c = record {
  all = walked-on c.args.set.now c.loop-member.yielded c.loop-member.member-iterator c.next.new.self c.in-Some.member c.loop-member.invariant.all
      c.in-Some.ensures.steps;
  both = both-more c.loop-member.both c.set.new.self (get_or c.args.self.now c.args.other []) c.loop-member.yielded c.in-Some.member c.in-Ok.ensures.0
      (λ i. c.in_ok-set.ensures.ok i ∙ ap (λ n. cond (nat_eq i n) true (has_number c.loop-member.both i)) c.in-Ok.ensures.1)
      (ap (λ n. is_member c.args.self.now c.args.other n) (sym c.in-Ok.ensures.1) ∙ sym c.if-not-has.ensures) c.loop-member.invariant.both;
}

pub loop-member-preserved-then-not-has : goal.loop-member-preserved-then-not-has
loop-member-preserved-then-not-has g c = record {
  all = walked-on c.args.set.now c.loop-member.yielded c.loop-member.member-iterator c.next.new.self c.in-Some.member c.loop-member.invariant.all
      c.in-Some.ensures.steps;
  both = both-skip c.loop-member.both (get_or c.args.self.now c.args.other []) c.loop-member.yielded c.in-Some.member
      (ap (λ n. is_member c.args.self.now c.args.other n) (sym c.in-Ok.ensures.1) ∙ sym c.if-not-has.ensures) c.loop-member.invariant.both;
}

pub returns : goal.returns
returns g c y =
    both-all c.args.set.now c.loop-member.both (get_or c.args.self.now c.args.other []) c.loop-member.yielded c.loop-member.member-iterator
    c.loop-member.invariant.all c.in-None.ensures.steps.0 c.loop-member.invariant.both y
