use Rattle.std.proofs.Common.{◌∙◌, ◌++◌, ap, List}
use Rattle.regalloc2_names.specs.Register.{Register}
use Rattle.regalloc2_parts.proofs.OldestFirst.{none_accepted, one_accepted}
use Rattle.std.proofs.Common.{◌≡◌, sym, arith, false, length, suc, ◌∷◌, [], append_assoc}
use Rattle.std.proofs.lemmas.List.Elements.{All-push}
use Rattle.regalloc2_parts.proofs.lru.Lru.last_satisfying.Goals as goal

pub returns-then-f-clause-oldest : goal.returns-then-f-clause-oldest
returns-then-f-clause-oldest g c =
    one_accepted (λ r b. goal.F-post g c.args.f r b) c.args.self.now c.loop-preg.yielded c.next.new.self c.in-Some.preg
    (c.loop-preg.invariant.walk ∙ ap (λ (l : List Register). c.loop-preg.yielded ++ l) c.in-Some.ensures.steps) c.loop-preg.invariant.asked c.if-f.ensures

pub returns-then-f-clause-member : goal.returns-then-f-clause-member
returns-then-f-clause-member g c = let found = returns-then-f-clause-oldest g c in (found.1, found.2, found.3)

pub returns-clause-oldest : goal.returns-clause-oldest
returns-clause-oldest g c =
    none_accepted (λ r b. goal.F-post g c.args.f r b) c.args.self.now c.loop-preg.yielded c.loop-preg.preg-iterator c.loop-preg.invariant.walk
    c.in-None.ensures.steps.0 c.loop-preg.invariant.asked

pub loop-preg-init : goal.loop-preg-init
loop-preg-init g c = record {
  walk = sym (c.into_iter-preg-iterator.ensures.into_iter_gives ∙ c.oldest_first-preg-items.ensures.walk);
  asked = λ k d less. absurd (omega (arith, less));
}

pub loop-preg-preserved : goal.loop-preg-preserved
loop-preg-preserved g c = record {
  walk = c.loop-preg.invariant.walk ∙ ap (λ (l : List Register). c.loop-preg.yielded ++ l) c.in-Some.ensures.steps
      ∙ sym (append_assoc c.loop-preg.yielded (c.in-Some.preg ∷ []) c.next.new.self);
  asked = All-push (λ r. goal.F-post g c.args.f r false) c.loop-preg.yielded c.in-Some.preg c.loop-preg.invariant.asked c.if-f.ensures;
}

pub loop-preg-smaller : goal.loop-preg-smaller
loop-preg-smaller g c =
    let more : length c.loop-preg.preg-iterator ≡ suc (length c.next.new.self) = ap (λ (l : List Register). length l) c.in-Some.ensures.steps in
    omega (arith, more)

pub next-requires : goal.next-requires
next-requires g c = tt

pub returns-clause-member : goal.returns-clause-member
returns-clause-member g c = tt
