use Rattle.std.proofs.Common.{◌≡◌, ◌∙◌, get_or, refl, sym, ap, below_more, arith}
use Rattle.std.proofs.lemmas.Bool.{false≢true}
use Rattle.std.proofs.lemmas.List.{get_or_default}
use Rattle.regalloc2_function.proofs.blocks.are_used_up.Goals as goal

pub loop-block-init : goal.loop-block-init
loop-block-init c = λ k less. absurd (omega (arith, less))

pub bounds-counts-index : goal.bounds-counts-index
bounds-counts-index c =
    let there = c.requires c.loop-block.block-index c.block-item.result c.loop-block-test.true in omega (arith, there, c.block-item.is, c.index.ensures)

pub returns-then-counts-index-ne0 : goal.returns-then-counts-index-ne0
returns-then-counts-index-ne0 c = (
  λ e. absurd (false≢true e),
  λ all. absurd (c.if-counts-index-ne0.true (ap (λ n. get_or c.args.counts.now n 0) (c.index.ensures ∙ c.block-item.is)
      ∙ all c.loop-block.block-index c.block-item.result c.loop-block-test.true)),
)

pub loop-block-preserved : goal.loop-block-preserved
loop-block-preserved c =
    below_more (λ k. get_or c.args.counts.now (get_or c.args.blocks.now k 0) 0 ≡ 0) _ c.loop-block.invariant
    (ap (λ n. get_or c.args.counts.now n 0) (sym (c.index.ensures ∙ c.block-item.is
    ∙ get_or_default c.args.blocks.now c.loop-block.block-index c.block-item.result 0 c.loop-block-test.true)) ∙ c.if-counts-index-ne0.false)

pub returns : goal.returns
returns c = (
  λ yes k d less. ap (λ n. get_or c.args.counts.now n 0) (get_or_default c.args.blocks.now k d 0 less)
      ∙ c.loop-block.invariant k (omega (arith, less, c.loop-block-test.false)),
  λ all. refl,
)
