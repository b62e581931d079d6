use Rattle.std.proofs.Common.{◌≡◌, ◌<◌, ◌≤◌, ℕ, List, length, get_or, sym, ◌∙◌, ap, subst, arith}
use Rattle.std.specs.Prelude.{min}
use Rattle.std.specs.declared.vec.Vec.{Vec}
use Rattle.std.proofs.lemmas.List.{get_or_default}
use Rattle.regalloc2_names.specs.Register.{VirtualRegister}
use Rattle.regalloc2_checker.specs.Showing.{shows_now}
use Rattle.regalloc2_checker.specs.Renamed.{HoldersAre}
use Rattle.regalloc2_checker.specs.TableFacts.{facts_now, IsListedVReg}
use Rattle.regalloc2_checker.proofs.RestOfList.{renamed_none, renamed_more, renamed_all, vreg-listed}
use Rattle.regalloc2_checker.proofs.TableSteps.{kept-twice, given-renamed}
use Rattle.regalloc2_checker.proofs.transfer.assign_params.Goals as goal

pub loop-k-init : goal.loop-k-init
loop-k-init g c = record {
  kept = c.in_ok-forget_params.ensures.kept;
  renamed = renamed_none c.args.params.now c.args.arguments.now (facts_now c.args.values.now) (facts_now c.forget_params.new.values)
      c.in_ok-forget_params.ensures.others;
}

pub give-requires-clause-param : goal.give-requires-clause-param
give-requires-clause-param g c =
    subst (λ (vs : List ℕ). IsListedVReg vs c.index-params-k.result) (sym c.loop-k.invariant.kept.vregs)
    (vreg-listed c.args.values.now.vregs c.args.params.now c.loop-k.k c.index-params-k.result (omega (arith, c.loop-k-test.true, c.min-k-end.ensures))
    c.index-params-k.is c.requires.params)

pub give-requires-clause-places : goal.give-requires-clause-places
give-requires-clause-places g c = λ i e.
    let h = c.in_ok-had.ensures.holders c.loop-k.k c.index.result.now c.index-params-k.result (omega (arith, c.loop-k-test.true, c.min-k-end.ensures)) in
    let whole : c.deref.result.now ≡ (get_or c.in_ok-had.had.items c.loop-k.k c.index.result.now).items =
    c.deref.ensures.value ∙ ap (λ (v : Vec ℕ _). v.items) c.index.ensures in
    let there : HoldersAre c.args.values.now.places (shows_now c.args.values.now) (get_or c.args.arguments.now c.loop-k.k c.index-params-k.result)
    c.deref.result.now =
    subst (λ (xs : List ℕ). HoldersAre c.args.values.now.places (shows_now c.args.values.now)
    (get_or c.args.arguments.now c.loop-k.k c.index-params-k.result) xs) (sym whole) h in
    subst (λ (ps : List ℕ). i < length ps) (sym c.loop-k.invariant.kept.places) (there.within i e)

pub loop-k-preserved : goal.loop-k-preserved
loop-k-preserved g c =
    let k : ℕ = c.loop-k.k in
    let p : VirtualRegister = c.index-params-k.result in
    let a : VirtualRegister = get_or c.args.arguments.now k p in
    let lp : k < length c.args.params.now = omega (arith, c.loop-k-test.true, c.min-k-end.ensures) in
    let lh : k < length c.in_ok-had.had.items = omega (arith, c.loop-k-test.true, c.min-k-end.ensures) in
    let la : k < length c.args.arguments.now = omega (arith, lh, c.in_ok-had.ensures.long) in
    let h = c.in_ok-had.ensures.holders k c.index.result.now p lh in
    let whole : c.deref.result.now ≡ (get_or c.in_ok-had.had.items k c.index.result.now).items =
    c.deref.ensures.value ∙ ap (λ (v : Vec ℕ _). v.items) c.index.ensures in
    let there : HoldersAre c.args.values.now.places (shows_now c.args.values.now) a c.deref.result.now =
    subst (λ (xs : List ℕ). HoldersAre c.args.values.now.places (shows_now c.args.values.now) a xs) (sym whole) h in
    record {
      kept = kept-twice c.args.values.now c.loop-k.values c.give.new.values c.loop-k.invariant.kept c.in_ok-give.ensures.kept;
      renamed = renamed_more c.args.params.now c.args.arguments.now k p a (facts_now c.args.values.now) (facts_now c.loop-k.values)
          (facts_now c.give.new.values) lp la c.index-params-k.is (get_or_default c.args.arguments.now k p a la)
          (given-renamed c.args.values.now.places c.loop-k.values.places (shows_now c.args.values.now) p a c.deref.result.now (facts_now c.loop-k.values)
          (facts_now c.give.new.values) c.loop-k.invariant.kept.places there c.in_ok-give.ensures.now) c.loop-k.invariant.renamed;
    }

pub returns-clause-now : goal.returns-clause-now
returns-clause-now g c =
    renamed_all c.args.params.now c.args.arguments.now c.loop-k.k (facts_now c.args.values.now) (facts_now c.loop-k.values)
    (subst (λ (n : ℕ). min (length c.args.params.now) n ≤ c.loop-k.k) c.in_ok-had.ensures.long (omega (arith, c.loop-k-test.false, c.min-k-end.ensures)))
    c.loop-k.invariant.renamed
