use Rattle.std.proofs.Common.{ℕ, ◌≡◌, ◌<◌, List, arith, true, ap, sym, ◌∙◌}
use Rattle.regalloc2_function.specs.Numbers.{times_listed}
use Rattle.regalloc2_checker_sets.specs.EntrySets.{is_member}
use Rattle.regalloc2_checker_sets.proofs.Bits.{bits-in, bits-small}
use Rattle.regalloc2_checker_sets.proofs.Walked.{times-nil, walked-on, walked-is, walked-more, walked-end}
use Rattle.regalloc2_checker_sets.proofs.sets.Sets.is_subset.Goals as goal

pub loop-member-init : goal.loop-member-init
loop-member-init g c = record {
  all = λ i. ap (λ (l : List ℕ). times_listed l i) c.into_iter-member-iterator.ensures.into_iter_gives ∙ c.iter-member-items.ensures i;
  there = λ y h l. (let e = times-nil y in absurd (omega arith));
}

pub loop-member-preserved-in_default : goal.loop-member-preserved-in_default
loop-member-preserved-in_default g c = record {
  all = walked-on c.args.set.now c.loop-member.yielded c.loop-member.member-iterator c.next.new.self c.in-Some.member c.loop-member.invariant.all
      c.in-Some.ensures.steps;
  there = walked-more (λ y. y < 4294967296 → is_member c.args.self.now c.args.other y ≡ true) c.loop-member.yielded c.in-Some.member
      c.loop-member.invariant.there (λ l. absurd (c.in_default.ensures l));
}

pub loop-member-preserved : goal.loop-member-preserved
loop-member-preserved g c = record {
  all = walked-on c.args.set.now c.loop-member.yielded c.loop-member.member-iterator c.next.new.self c.in-Some.member c.loop-member.invariant.all
      c.in-Some.ensures.steps;
  there = walked-more (λ y. y < 4294967296 → is_member c.args.self.now c.args.other y ≡ true) c.loop-member.yielded c.in-Some.member
      c.loop-member.invariant.there (λ l. ap (λ n. is_member c.args.self.now c.args.other n) (sym c.in-Ok.ensures.1) ∙ sym c.if-not-has.ensures);
}

pub returns-then-not-has-clause-no : goal.returns-then-not-has-clause-no
returns-then-not-has-clause-no g c = record {
  bits = c.in-Some.member;
  small = c.in-Ok.ensures.0;
  here = bits-in c.args.set.now c.in-Some.member c.in-Ok.ensures.0
      (walked-is c.args.set.now c.loop-member.yielded c.loop-member.member-iterator c.next.new.self c.in-Some.member c.loop-member.invariant.all
      c.in-Some.ensures.steps);
  not_there = ap (λ n. is_member c.args.self.now c.args.other n) (sym c.in-Ok.ensures.1) ∙ sym c.if-not-has.ensures;
}

pub returns-clause-yes : goal.returns-clause-yes
returns-clause-yes g c y h =
    let s = bits-small c.args.set.now y h in
    c.loop-member.invariant.there y (walked-end c.args.set.now c.loop-member.yielded c.loop-member.member-iterator y c.loop-member.invariant.all
    c.in-None.ensures.steps.0 s.1) s.0
