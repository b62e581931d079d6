use Rattle.std.proofs.Common.{arith, ◌∙◌, ◌≡◌, ◌+◌, refl, subst}
use Rattle.regalloc2_serialize.proofs.RewriteLemmas.SplitSteps.{counted-next}
use Rattle.std.specs.Prelude.{slice_index}
use Rattle.std.proofs.lemmas.List.{take_all}
use Rattle.regalloc2_function.specs.WellFormed.{times_in}
use Rattle.regalloc2_serialize.specs.Rewrite.SplitEdges.{AgreeUpToTwo}
use Rattle.regalloc2_serialize.proofs.rewrite.edges.count_entries.Goals as goal

pub loop-succ-preserved : goal.loop-succ-preserved
loop-succ-preserved g c = record {
  long = c.count_entry.ensures.long ∙ c.loop-succ.invariant.long;
  counted = λ t less. counted-next c.args.counts.now.items c.loop-succ.counts.items c.count_entry.new.counts.items c.args.succs.now c.loop-succ.succ-index
      c.succ-item.result t c.loop-succ-test.true c.succ-item.is (c.loop-succ.invariant.counted t less)
      (c.count_entry.ensures.counted t (omega (arith, c.loop-succ.invariant.long, less)));
}

pub loop-succ-init : goal.loop-succ-init
loop-succ-init g c = record {
  long = refl;
  counted = λ t less. (let same : slice_index c.args.counts.now.items t ≡ slice_index c.args.counts.now.items t + 0 = omega arith in (λ low. same, λ low. same));
}

pub count_entry-requires : goal.count_entry-requires
count_entry-requires g c =
    let there = c.requires c.loop-succ.succ-index c.succ-item.result c.loop-succ-test.true in
    omega (arith, there, c.succ-item.is, c.loop-succ.invariant.long)

pub returns-clause-long : goal.returns-clause-long
returns-clause-long g c = c.loop-succ.invariant.long

pub returns-clause-counted : goal.returns-clause-counted
returns-clause-counted g c t less =
    subst (λ ss. AgreeUpToTwo (slice_index c.loop-succ.counts.items t) (slice_index c.args.counts.now.items t + times_in t ss))
    (take_all c.loop-succ.succ-index c.args.succs.now (omega (arith, c.loop-succ-test.false))) (c.loop-succ.invariant.counted t less)
