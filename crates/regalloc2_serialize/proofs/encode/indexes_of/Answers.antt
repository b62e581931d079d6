use Rattle.std.proofs.Common.{rules, refl, ◌≡◌, ◌++◌, ◌∙◌, true, sym, subst, ap, map, List}
use Rattle.std.specs.Prelude.{◌↔◌, Contains}
use Rattle.std.proofs.lemmas.List.{append-nil}
use Rattle.regalloc2_names.specs.Register.{Register, has_register}
use Rattle.std.proofs.lemmas.List.Elements.{All-nil, All-push}
use Rattle.regalloc2_names.specs.Packing.{IsRegisterIndex, register_of_bits}
use Rattle.regalloc2_serialize.proofs.Lists.{walked-more}
use Rattle.regalloc2_serialize.proofs.encode.indexes_of.Goals as goal

pub returns-clause-set : goal.returns-clause-set
returns-clause-set g c =
    let ends : map register_of_bits c.loop-reg.indexes.items ≡ c.into_iter-reg-iterator.result =
    sym (append-nil (map register_of_bits c.loop-reg.indexes.items)) ∙ ap (λ (l : List Register). map register_of_bits c.loop-reg.indexes.items ++ l)
    (sym c.in-None.ensures.steps.0) ∙ c.loop-reg.invariant.same in
    record {
      words = search rules;
      members = subst (λ (l : List Register). (r : Register) → (has_register c.args.set r ≡ true) ↔ Contains l r) (sym ends)
          c.into_iter-reg-iterator.ensures.into_iter_gives.members;
    }

pub loop-reg-init : goal.loop-reg-init
loop-reg-init g c = record {
  same = rw c.new-indexes.ensures.items refl;
  names = rw c.new-indexes.ensures.items (All-nil IsRegisterIndex);
}

pub loop-reg-preserved : goal.loop-reg-preserved
loop-reg-preserved g c =
    let done = c.loop-reg.indexes.items in
    let one = c.index.result in
    record {
      same = rw c.in_ok-push.ensures.items (walked-more register_of_bits done one c.in-Some.reg c.loop-reg.reg-iterator c.next.new.self
          c.into_iter-reg-iterator.result c.in-Some.ensures.steps (search rules) c.loop-reg.invariant.same);
      names = rw c.in_ok-push.ensures.items (All-push IsRegisterIndex done one c.loop-reg.invariant.names (search rules));
    }

pub returns-clause-names : goal.returns-clause-names
returns-clause-names g c = c.loop-reg.invariant.names
