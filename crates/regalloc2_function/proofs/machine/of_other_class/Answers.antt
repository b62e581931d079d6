use Rattle.std.proofs.Common.{◌≡◌, append_assoc, arith, refl, inl, inr, rules, tests}
use Rattle.std.proofs.lemmas.List.Elements.{All-contains, All-nil, All-push, Contains-append_cases, Contains-append_right}
use Rattle.regalloc2_function.proofs.machine.of_other_class.Goals as goal

pub loop-reg-init : goal.loop-reg-init
loop-reg-init c = record { left = c.into_iter-reg-iterator.ensures.into_iter_gives; of_class = All-nil _ }

pub returns-then-ne : goal.returns-then-ne
returns-then-ne c = (
  (c.loop-reg.invariant.left.members c.in-Some.reg).1 (Contains-append_right c.loop-reg.yielded c.loop-reg.reg-iterator c.in-Some.reg
      (rw c.in-Some.ensures.steps (0, omega arith, refl))),
  λ e. absurd (search (rules, tests)),
)

pub loop-reg-preserved : goal.loop-reg-preserved
loop-reg-preserved c = record {
  left = rw (append_assoc, ← c.in-Some.ensures.steps) c.loop-reg.invariant.left;
  of_class = All-push (λ r. r.class ≡ c.args.class) c.loop-reg.yielded c.in-Some.reg c.loop-reg.invariant.of_class
      (search (rules, tests));
}

pub returns : goal.returns
returns c = λ r h.
    elim (Contains-append_cases c.loop-reg.yielded c.loop-reg.reg-iterator r ((c.loop-reg.invariant.left.members r).0 h)) [
      | inl before ↦ All-contains (λ x. x.class ≡ c.args.class) c.loop-reg.yielded r c.loop-reg.invariant.of_class before
      | inr after ↦ let less = rw c.in-None.ensures.steps.0 at after.1 in absurd (omega arith)
    ]
