use Rattle.std.proofs.Common.{◌≡◌, ◌∙◌, ◌<◌, ℕ, ◌∷◌, [], ◌++◌, get_or, length, map, ap, subst, sym, arith}
use Rattle.std.specs.Prelude.{slice_index}
use Rattle.regalloc2_function.specs.FunctionValue.{FunctionValue}
use Rattle.regalloc2_serialize.specs.TableFunction.Draft.{draft_of}
use Rattle.regalloc2_serialize.specs.Rewrite.Renumbered.{renamed}
use Rattle.regalloc2_serialize.proofs.RewriteLemmas.Lists.{map-taken}
use Rattle.std.proofs.lemmas.List.{take_all}
use Rattle.regalloc2_serialize.proofs.rewrite.order.renamed_blocks.Goals as goal

pub renamed_block-requires : goal.renamed_block-requires
renamed_block-requires g c =
    let f : FunctionValue = g.F.Function.function c.args.f.now in
    let is : c.block-item.result ≡ get_or c.args.order.now c.loop-block.block-index c.block-item.result = c.block-item.is in
    record {
      framed = c.requires.framed;
      block = subst (λ (b : ℕ). b < length f.blocks) (sym is) (c.requires.order c.loop-block.block-index c.block-item.result c.loop-block-test.true);
      numbers = c.requires.numbers;
    }

pub loop-block-preserved : goal.loop-block-preserved
loop-block-preserved g c =
    let f : FunctionValue = g.F.Function.function c.args.f.now in
    let number : ℕ → ℕ = λ s. slice_index c.args.numbers.now s in
    let e : c.push.new.self.items ≡ c.loop-block.drafts.items ++ c.in_ok-draft.draft ∷ [] = c.in_ok-push.ensures.items in
    let is : c.block-item.result ≡ get_or c.args.order.now c.loop-block.block-index c.block-item.result = c.block-item.is in
    ap (map draft_of) e
    ∙ map-taken draft_of (renamed number f) c.loop-block.drafts.items c.in_ok-draft.draft c.args.order.now c.loop-block.block-index
    c.block-item.result c.loop-block-test.true is c.in_ok-draft.ensures c.loop-block.invariant

pub loop-block-init : goal.loop-block-init
loop-block-init g c = ap (map draft_of) c.in_ok-drafts.ensures.items

pub returns : goal.returns
returns g c = c.loop-block.invariant ∙ ap (map (renamed (λ s. slice_index c.args.numbers.now s) (g.F.Function.function c.args.f.now)))
    (take_all c.loop-block.block-index c.args.order.now (omega (arith, c.loop-block-test.false)))
