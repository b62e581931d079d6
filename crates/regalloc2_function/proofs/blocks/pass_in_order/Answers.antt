use Rattle.std.proofs.Common.{ℕ, ◌≡◌, ◌+◌, ◌∙◌, length, get_or, drop, sym, ap, subst, arith}
use Rattle.std.proofs.lemmas.Bool.{false≢true}
use Rattle.std.proofs.lemmas.List.{length-replicate}
use Rattle.regalloc2_function.specs.FunctionValue.{FunctionValue, block_at}
use Rattle.regalloc2_function.specs.Inside.Ways.{MetSoFar}
use Rattle.regalloc2_function.proofs.TimesInList.{zeros}
use Rattle.regalloc2_function.proofs.PredsInOrder.{all_met}
use Rattle.regalloc2_function.proofs.blocks.pass_in_order.Goals as goal

pub loop-b-init : goal.loop-b-init
loop-b-init g c =
    let f : FunctionValue = g.F.Function.function c.args.f.now in
    let none : (n : ℕ) → get_or c.args.counts.now n 0 ≡ 0 = λ n. rw c.requires.zero (zeros (length f.blocks) n) in
    record {
      whole = c.num_blocks-b-end.ensures.count;
      met = λ n less. (none n, ap (λ k. drop k (block_at f n).preds) (sym (none n)));
    }

pub meets_in_order-requires-clause-block : goal.meets_in_order-requires-clause-block
meets_in_order-requires-clause-block g c = omega (arith, c.loop-b.invariant.whole, c.loop-b-test.true, c.new.ensures)

pub meets_in_order-requires-clause-blocks : goal.meets_in_order-requires-clause-blocks
meets_in_order-requires-clause-blocks g c = c.requires.blocks

pub meets_in_order-requires-clause-long : goal.meets_in_order-requires-clause-long
meets_in_order-requires-clause-long g c = c.loop-b.auto.counts ∙ ap length c.requires.zero ∙ length-replicate _ 0

pub meets_in_order-requires-clause-met : goal.meets_in_order-requires-clause-met
meets_in_order-requires-clause-met g c =
    subst (λ b. MetSoFar (g.F.Function.function c.args.f.now) b c.loop-b.counts) (sym c.new.ensures) c.loop-b.invariant.met

pub returns-then-not-meets_in_order : goal.returns-then-not-meets_in_order
returns-then-not-meets_in_order g c = (
  λ e. absurd (false≢true e),
  λ order. absurd (false≢true (sym c.if-not-meets_in_order.true ∙ c.meets_in_order.ensures.order order)),
)

pub loop-b-preserved : goal.loop-b-preserved
loop-b-preserved g c = record {
  whole = c.loop-b.invariant.whole;
  met = subst (λ b. MetSoFar (g.F.Function.function c.args.f.now) (b + 1) c.meets_in_order.new.counts) c.new.ensures c.if-not-meets_in_order.ensures.met;
}

pub are_all_met-requires : goal.are_all_met-requires
are_all_met-requires g c = c.loop-b.auto.counts ∙ ap length c.requires.zero ∙ length-replicate _ 0

pub returns : goal.returns
returns g c =
    let f : FunctionValue = g.F.Function.function c.args.f.now in
    let end : c.loop-b.b ≡ length f.blocks = omega (arith, c.loop-b.invariant.whole, c.loop-b-test.false, c.loop-b.auto.b-end) in
    let all = all_met f c.loop-b.counts (subst (λ b. MetSoFar f b c.loop-b.counts) end c.loop-b.invariant.met) in
    (λ yes. all.0 (c.are_all_met.ensures.0 yes), λ order. c.are_all_met.ensures.1 (all.1 order))
