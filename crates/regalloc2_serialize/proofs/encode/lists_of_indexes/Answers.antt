use Rattle.std.proofs.Common.{rules, arith, ◌≡◌, ◌∙◌, ◌∷◌, [], ◌++◌, ◌+◌, ◌<◌, ap, sym, subst, length, take, get_or}
use Rattle.std.specs.List.{AllZip}
use Rattle.std.specs.Prelude.{All}
use Rattle.std.proofs.lemmas.List.{get_or_default, take_all}
use Rattle.std.proofs.lemmas.List.Elements.{All-push, All-nil}
use Rattle.std.proofs.lemmas.Slice.Zip.{AllZip-long}
use Rattle.regalloc2_names.specs.Packing.{IsRegisterIndex}
use Rattle.regalloc2_names.specs.declared.sets.PRegSet.{PRegSet}
use Rattle.regalloc2_serialize.specs.Decoded.{HasIndexes}
use Rattle.regalloc2_serialize.proofs.Lists.{zip-next}
use Rattle.regalloc2_serialize.proofs.encode.lists_of_indexes.Goals as goal

pub loop-set-preserved : goal.loop-set-preserved
loop-set-preserved g c =
    let e : c.push.new.self.items ≡ c.loop-set.lists.items ++ c.in_ok-indexes.indexes ∷ [] = c.in_ok-push.ensures.items in
    let none : PRegSet = record { bits = [] } in
    let three : length c.args.sets.now ≡ 3 = search rules in
    let less : c.loop-set.set-index < length c.args.sets.now = omega (arith, three, c.loop-set-test.true) in
    record {
      same = subst (λ zs. AllZip (λ v set. HasIndexes v.items set) zs (take (c.loop-set.set-index + 1) c.args.sets.now)) (sym e)
          (zip-next (λ v set. HasIndexes v.items set) c.loop-set.lists.items c.args.sets.now c.loop-set.set-index c.in_ok-indexes.indexes
          (get_or c.args.sets.now c.loop-set.set-index none) less
          (get_or_default c.args.sets.now c.loop-set.set-index none _ less) c.loop-set.invariant.same c.in_ok-indexes.ensures.set);
      names = subst (λ zs. All (λ v. All IsRegisterIndex v.items) zs) (sym e)
          (All-push (λ v. All IsRegisterIndex v.items) c.loop-set.lists.items c.in_ok-indexes.indexes c.loop-set.invariant.names
          c.in_ok-indexes.ensures.names);
    }

pub returns-clause-three : goal.returns-clause-three
returns-clause-three g c =
    let all : take c.loop-set.set-index c.args.sets.now ≡ c.args.sets.now =
    take_all c.loop-set.set-index c.args.sets.now (omega (arith, c.loop-set-test.false)) in
    let three : length c.args.sets.now ≡ 3 = search rules in
    sym (AllZip-long (λ v set. HasIndexes v.items set) c.loop-set.lists.items (take c.loop-set.set-index c.args.sets.now) c.loop-set.invariant.same)
    ∙ ap length all ∙ three

pub returns-clause-names : goal.returns-clause-names
returns-clause-names g c = c.loop-set.invariant.names

pub loop-set-init : goal.loop-set-init
loop-set-init g c =
    record {
      same = rw c.in_ok-lists.ensures.items tt;
      names = rw c.in_ok-lists.ensures.items (All-nil (λ v. All IsRegisterIndex v.items));
    }

pub bounds-sets-set-index : goal.bounds-sets-set-index
bounds-sets-set-index g c = c.loop-set-test.true

pub returns-clause-sets : goal.returns-clause-sets
returns-clause-sets g c = rw (take_all c.loop-set.set-index c.args.sets.now (omega (arith, c.loop-set-test.false))) at c.loop-set.invariant.same
