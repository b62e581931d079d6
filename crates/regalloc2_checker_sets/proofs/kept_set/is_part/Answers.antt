use Rattle.std.proofs.Common.{ℕ, ◌≡◌, ◌<◌, List, arith, true, ap, sym, ◌∙◌}
use Rattle.regalloc2_function.specs.Numbers.{times_listed}
use Rattle.regalloc2_checker_sets.specs.EntrySets.{has_bits}
use Rattle.regalloc2_checker_sets.proofs.Bits.{bits-small}
use Rattle.regalloc2_checker_sets.proofs.Walked.{times-nil, walked-on, walked-more, walked-end}
use Rattle.regalloc2_checker_sets.proofs.kept_set.is_part.Goals as goal

pub loop-member-init : goal.loop-member-init
loop-member-init g c = record {
  all = λ i. ap (λ (l : List ℕ). times_listed l i) c.into_iter-member-iterator.ensures.into_iter_gives ∙ c.iter-member-items.ensures i;
  there = λ y h l. (let e = times-nil y in absurd (omega arith));
}

pub loop-member-preserved-in_default : goal.loop-member-preserved-in_default
loop-member-preserved-in_default g c = record {
  all = walked-on c.args.set.now c.loop-member.yielded c.loop-member.member-iterator c.next.new.self c.in-Some.member c.loop-member.invariant.all
      c.in-Some.ensures.steps;
  there = walked-more (λ y. y < 4294967296 → has_bits c.args.other.now y ≡ true) c.loop-member.yielded c.in-Some.member
      c.loop-member.invariant.there (λ l. absurd (c.in_default.ensures l));
}

pub loop-member-preserved : goal.loop-member-preserved
loop-member-preserved g c = record {
  all = walked-on c.args.set.now c.loop-member.yielded c.loop-member.member-iterator c.next.new.self c.in-Some.member c.loop-member.invariant.all
      c.in-Some.ensures.steps;
  there = walked-more (λ y. y < 4294967296 → has_bits c.args.other.now y ≡ true) c.loop-member.yielded c.in-Some.member
      c.loop-member.invariant.there (λ l. ap (λ n. has_bits c.args.other.now n) (sym c.in-Ok.ensures.1) ∙ sym c.if-not-has_bits.ensures);
}

pub returns : goal.returns
returns g c e y h =
    let s = bits-small c.args.set.now y h in
    c.loop-member.invariant.there y (walked-end c.args.set.now c.loop-member.yielded c.loop-member.member-iterator y c.loop-member.invariant.all
    c.in-None.ensures.steps.0 s.1) s.0
