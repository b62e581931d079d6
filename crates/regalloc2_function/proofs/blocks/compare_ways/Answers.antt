use Rattle.std.proofs.Common.{◌≡◌, ◌<◌, ◌∙◌, length, refl, sym, ap, below_more, arith}
use Rattle.std.proofs.lemmas.List.{length-replicate}
use Rattle.regalloc2_function.specs.FunctionValue.{FunctionValue, block_at}
use Rattle.regalloc2_function.specs.WellFormed.{PredecessorsAt, times_in}
use Rattle.regalloc2_function.specs.Inside.Ways.{listed_of}
use Rattle.regalloc2_function.proofs.TimesInList.{zeros}
use Rattle.regalloc2_function.proofs.PredsListed.{are_blocks, listed_here}
use Rattle.std.proofs.lemmas.Bool.{false≢true}
use Rattle.regalloc2_function.proofs.blocks.compare_ways.Goals as goal

pub loop-b-init : goal.loop-b-init
loop-b-init g c = record {
  whole = c.num_blocks-b-end.ensures.count;
  zero = λ n. rw c.requires.zero (zeros (length (g.F.Function.function c.args.f.now).blocks) n);
  so_far = λ n less. absurd (omega arith);
}

pub same_blocks-requires-clause-within : goal.same_blocks-requires-clause-within
same_blocks-requires-clause-within g c =
    let f : FunctionValue = g.F.Function.function c.args.f.now in
    let less : c.loop-b.b < length c.args.ways.now = omega (arith, c.loop-b.invariant.whole, c.requires.long) in
    let long : length c.loop-b.counts ≡ length f.blocks = c.loop-b.auto.counts ∙ ap length c.requires.zero ∙ length-replicate (length f.blocks) 0 in
    let listed : listed_of c.args.ways.now c.loop-b.b ≡ c.as_slice.result.now = listed_here c.args.ways.now c.loop-b.b c.index-ways-b.result less
    ∙ ap (λ w. w.items) (sym c.index-ways-b.is) ∙ sym c.as_slice.ensures.value in
    rw long (rw (← listed) (are_blocks f c.loop-b.b (listed_of c.args.ways.now c.loop-b.b) (c.requires.ways c.loop-b.b)))

pub returns-then-not-same_blocks-clause-err : goal.returns-then-not-same_blocks-clause-err
returns-then-not-same_blocks-clause-err g c =
    let f : FunctionValue = g.F.Function.function c.args.f.now in
    let there : c.loop-b.b < length c.args.ways.now = omega (arith, c.loop-b.invariant.whole, c.requires.long) in
    let less : c.new-block.result < length f.blocks = omega (arith, c.loop-b.invariant.whole, c.new-block.ensures) in
    let listed : listed_of c.args.ways.now c.loop-b.b ≡ c.as_slice.result.now = listed_here c.args.ways.now c.loop-b.b c.index-ways-b.result there
    ∙ ap (λ w. w.items) (sym c.index-ways-b.is) ∙ sym c.as_slice.ensures.value in (
      c.new-block.result,
      refl,
      (
        less,
        λ passes. absurd (false≢true (sym c.if-not-same_blocks.true ∙ c.same_blocks.ensures.same.1 (λ p. ap (times_in p) c.block_preds.ensures ∙ passes p
            ∙ ap (λ n. times_in n (block_at f p).succs) c.new-block.ensures ∙ sym (c.requires.ways c.loop-b.b p) ∙ ap (times_in p) listed))),
        λ m low. c.loop-b.invariant.so_far m (omega (arith, c.new-block.ensures)),
      ),
    )

pub loop-b-preserved : goal.loop-b-preserved
loop-b-preserved g c =
    let f : FunctionValue = g.F.Function.function c.args.f.now in
    let there : c.loop-b.b < length c.args.ways.now = omega (arith, c.loop-b.invariant.whole, c.requires.long) in
    let listed : listed_of c.args.ways.now c.loop-b.b ≡ c.as_slice.result.now = listed_here c.args.ways.now c.loop-b.b c.index-ways-b.result there
    ∙ ap (λ w. w.items) (sym c.index-ways-b.is) ∙ sym c.as_slice.ensures.value in
    let preds : c.block_preds.result.now ≡ (block_at f c.loop-b.b).preds = rw c.new-block.ensures at c.block_preds.ensures in
    record {
      whole = c.loop-b.invariant.whole;
      zero = c.if-not-same_blocks.ensures.zero;
      so_far = below_more (λ n. PredecessorsAt f n (block_at f n)) _ c.loop-b.invariant.so_far
          (λ p. ap (times_in p) (sym preds) ∙ c.same_blocks.ensures.same.0 c.if-not-same_blocks.false p ∙ ap (times_in p) (sym listed)
          ∙ c.requires.ways c.loop-b.b p);
    }

pub bounds-ways-b : goal.bounds-ways-b
bounds-ways-b g c = omega (arith, c.loop-b.invariant.whole, c.loop-b-test.true, c.requires.long)

pub block_preds-requires : goal.block_preds-requires
block_preds-requires g c = omega (arith, c.loop-b.invariant.whole, c.loop-b-test.true, c.new-block.ensures)

pub same_blocks-requires-clause-zero : goal.same_blocks-requires-clause-zero
same_blocks-requires-clause-zero g c = c.loop-b.invariant.zero

pub returns-clause-ok : goal.returns-clause-ok
returns-clause-ok g c = λ n less. c.loop-b.invariant.so_far n (omega (arith, less, c.loop-b.invariant.whole, c.loop-b-test.false))
