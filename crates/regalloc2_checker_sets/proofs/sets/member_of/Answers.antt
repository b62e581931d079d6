use Rattle.std.proofs.Common.{ℕ, ◌<◌, List, arith, ap, ◌∙◌}
use Rattle.regalloc2_function.specs.Numbers.{times_listed}
use Rattle.regalloc2_checker_sets.proofs.Bits.{bits-in, bits-small}
use Rattle.regalloc2_checker_sets.proofs.Walked.{times-nil, walked-on, walked-is, walked-more, walked-end}
use Rattle.regalloc2_checker_sets.proofs.Lone.{none-there, member-as}
use Rattle.regalloc2_checker_sets.proofs.sets.member_of.Goals as goal

pub loop-member-init : goal.loop-member-init
loop-member-init g c = record {
  all = λ i. ap (λ (l : List ℕ). times_listed l i) c.into_iter-member-iterator.ensures.into_iter_gives ∙ c.iter-member-items.ensures i;
  none = λ y h l. (let e = times-nil y in absurd (omega arith));
}

pub loop-member-preserved : goal.loop-member-preserved
loop-member-preserved g c = record {
  all = walked-on c.args.set.now c.loop-member.yielded c.loop-member.member-iterator c.next.new.self c.in-Some.member c.loop-member.invariant.all
      c.in-Some.ensures.steps;
  none = walked-more (λ y. y < 4294967296 → ⊥) c.loop-member.yielded c.in-Some.member c.loop-member.invariant.none (λ l. absurd (c.in_default.ensures l));
}

pub returns-in-Ok-clause-some : goal.returns-in-Ok-clause-some
returns-in-Ok-clause-some g c b e =
    member-as c.args.set.now c.in-Ok.bits b c.in-Some.member e c.in-Ok.ensures.1 (bits-in c.args.set.now c.in-Some.member c.in-Ok.ensures.0
    (walked-is c.args.set.now c.loop-member.yielded c.loop-member.member-iterator c.next.new.self c.in-Some.member c.loop-member.invariant.all
    c.in-Some.ensures.steps))

pub returns-clause-none : goal.returns-clause-none
returns-clause-none g c e =
    none-there c.args.set.now (λ y is. (let s = bits-small c.args.set.now y is in
    c.loop-member.invariant.none y (walked-end c.args.set.now c.loop-member.yielded c.loop-member.member-iterator y c.loop-member.invariant.all
    c.in-None.ensures.steps.0 s.1) s.0))
