use Rattle.std.proofs.Common.{arith, ◌≡◌, ◌∙◌, ◌+◌, ◌∷◌, [], ℕ, List, length, ap, subst, get_or}
use Rattle.std.specs.Prelude.{slice_index}
use Rattle.regalloc2_function.specs.FunctionValue.{FunctionValue, block_at}
use Rattle.regalloc2_function.specs.WellFormed.{times_in}
use Rattle.regalloc2_serialize.specs.Rewrite.SplitEdges.{AgreeUpToTwo}
use Rattle.regalloc2_serialize.proofs.RewriteLemmas.SplitSteps.{entered-all, listed-next, listed_by}
use Rattle.std.proofs.lemmas.List.{get_or-replicate}
use Rattle.regalloc2_serialize.proofs.rewrite.edges.entries_of.Goals as goal

pub loop-block-preserved : goal.loop-block-preserved
loop-block-preserved g c =
    let f : FunctionValue = g.F.Function.function c.args.f.now in
    let now : List ℕ = c.loop-block.counts.items in
    let next : List ℕ = c.count_entries.new.counts.items in
    let n : ℕ = c.loop-block.block in
    let same : c.block_succs.result.now ≡ (block_at f n).succs = c.block_succs.ensures ∙ ap (λ (b : ℕ). (block_at f b).succs) c.new.ensures in
    record {
      long = c.count_entries.ensures.long ∙ c.loop-block.invariant.long;
      counted = λ t less. listed-next f now next n t (c.loop-block.invariant.counted t less)
          (subst (λ ss. AgreeUpToTwo (slice_index next t) (slice_index now t + times_in t ss)) same
          (c.count_entries.ensures.counted t (omega (arith, c.loop-block.invariant.long, less))));
    }

pub returns : goal.returns
returns g c =
    let f : FunctionValue = g.F.Function.function c.args.f.now in
    let now : List ℕ = c.loop-block.counts.items in
    let next : List ℕ = c.count_entry.new.counts.items in
    let end : c.loop-block.block ≡ length f.blocks =
    omega (arith, c.loop-block-test.false, c.loop-block.auto.block-end, c.num_blocks-block-end.ensures.count) in
    record {
      long = c.count_entry.ensures.long ∙ c.loop-block.invariant.long;
      counted = λ t less. entered-all f now next t
          (subst (λ (n : ℕ). AgreeUpToTwo (slice_index now t) (listed_by f n t)) end (c.loop-block.invariant.counted t less))
          (subst (λ (e : ℕ). AgreeUpToTwo (slice_index next t) (slice_index now t + times_in t (e ∷ []))) c.entry_block.ensures
          (c.count_entry.ensures.counted t (omega (arith, c.loop-block.invariant.long, less))));
    }

pub loop-block-init : goal.loop-block-init
loop-block-init g c =
    let f : FunctionValue = g.F.Function.function c.args.f.now in
    record {
      long = omega (arith, c.in_ok-counts.ensures.len, c.in_ok-counts.counts.ok.0, c.num_blocks.ensures.count);
      counted = λ t less. (
          let none : slice_index c.in_ok-counts.counts.items t ≡ 0 = ap (λ (cs : List ℕ). get_or cs t 0) (c.in_ok-counts.ensures.items_if_clones_equal (λ y h. h))
          ∙ get_or-replicate c.num_blocks.result t 0 0 (omega (arith, less, c.num_blocks.ensures.count)) in
          (λ low. none, λ low. none));
    }

pub new-requires : goal.new-requires
new-requires g c = omega (arith, c.loop-block-test.true, c.num_blocks-block-end.ensures.limit)

pub block_succs-requires : goal.block_succs-requires
block_succs-requires g c = omega (arith, c.new.ensures, c.loop-block-test.true, c.num_blocks-block-end.ensures.count)

pub count_entries-requires : goal.count_entries-requires
count_entries-requires g c = rw (c.block_succs.ensures, c.loop-block.invariant.long)
    (c.requires.1 c.new.result (omega (arith, c.new.ensures, c.loop-block-test.true, c.num_blocks-block-end.ensures.count)))

pub count_entry-requires : goal.count_entry-requires
count_entry-requires g c = rw (c.entry_block.ensures, c.loop-block.invariant.long) c.requires.0
