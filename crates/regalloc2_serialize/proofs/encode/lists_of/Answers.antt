use Rattle.std.proofs.Common.{◌≡◌, ◌+◌, ◌++◌, ◌∷◌, [], arith, refl, take}
use Rattle.std.proofs.lemmas.List.{take_all, take_more}
use Rattle.regalloc2_serialize.proofs.encode.lists_of.Goals as goal

pub loop-block-init : goal.loop-block-init
loop-block-init g c =
    let e = c.in_ok-reserve.ensures (record {
      ranges = c.new.ensures.items;
      preds = c.new-2.ensures.items;
      succs = c.new-3.ensures.items;
      params = c.new-4.ensures.items;
      arguments = c.new-5.ensures.items;
    }) in
    record {
      ranges = rw e.ranges refl;
      succs = rw e.succs refl;
      preds = rw e.preds refl;
      params = rw e.params refl;
      arguments = rw e.arguments refl;
      param_names = rw e.params (λ k d less. absurd (omega (arith, less)));
      argument_names = rw e.arguments (λ k d less. absurd (omega (arith, less)));
    }

pub loop-block-preserved : goal.loop-block-preserved
loop-block-preserved g c =
    let i = c.loop-block.block-index in
    let all = c.args.blocks.now in
    let b = c.block-item.result in
    let more : take (i + 1) all ≡ take i all ++ b ∷ [] = rw (take_more all i b c.loop-block-test.true, ← c.block-item.is) refl in
    rw more (c.in_ok-add_block.ensures (take i all) c.loop-block.invariant)

pub returns : goal.returns
returns g c = rw (take_all c.loop-block.block-index c.args.blocks.now (omega (arith, c.loop-block-test.false))) at c.loop-block.invariant
