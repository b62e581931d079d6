use Rattle.std.proofs.Common.{◌<◌, length, refl, ap, sym, subst, arith, below_more, ◌∙◌}
use Rattle.std.proofs.lemmas.Bool.{false≢true}
use Rattle.regalloc2_index.specs.Range.{Span}
use Rattle.regalloc2_function.specs.FunctionValue.{FunctionValue, block_at}
use Rattle.regalloc2_function.specs.WellFormed.{CountedAt}
use Rattle.regalloc2_function.proofs.framed.arguments_counted.Goals as goal

pub loop-b-preserved : goal.loop-b-preserved
loop-b-preserved g c =
    let f : FunctionValue = g.F.Function.function c.args.f.now in
    record {
      within = c.loop-b.invariant.within;
      so_far = below_more (λ n. CountedAt f n (block_at f n)) _ c.loop-b.invariant.so_far
          (rw c.new-block.ensures at (c.counts_arguments.ensures.0 c.if-not-counts_arguments.false));
    }

pub block_insns-requires : goal.block_insns-requires
block_insns-requires g c = omega (arith, c.loop-b.invariant.within, c.new-block.ensures)

pub last-requires : goal.last-requires
last-requires g c =
    let f : FunctionValue = g.F.Function.function c.args.f.now in
    let less : c.new-block.result < length f.blocks = omega (arith, c.loop-b.invariant.within, c.new-block.ensures) in
    subst (λ (r : Span). r.first < r.end) (sym c.block_insns.ensures) (c.requires.follow c.new-block.result less).0

pub counts_arguments-requires-clause-block : goal.counts_arguments-requires-clause-block
counts_arguments-requires-clause-block g c = omega (arith, c.loop-b.invariant.within, c.new-block.ensures)

pub counts_arguments-requires-clause-last : goal.counts_arguments-requires-clause-last
counts_arguments-requires-clause-last g c =
    let f : FunctionValue = g.F.Function.function c.args.f.now in
    let less : c.new-block.result < length f.blocks = omega (arith, c.loop-b.invariant.within, c.new-block.ensures) in
    omega (arith, c.last.ensures, ap (λ (r : Span). r.end) c.block_insns.ensures, (c.requires.follow c.new-block.result less).0)

pub counts_arguments-requires-clause-nonempty : goal.counts_arguments-requires-clause-nonempty
counts_arguments-requires-clause-nonempty g c =
    let f : FunctionValue = g.F.Function.function c.args.f.now in
    let less : c.new-block.result < length f.blocks = omega (arith, c.loop-b.invariant.within, c.new-block.ensures) in
    omega (arith, c.last.ensures, ap (λ (r : Span). r.end) c.block_insns.ensures, (c.requires.follow c.new-block.result less).0)

pub returns-then-not-counts_arguments : goal.returns-then-not-counts_arguments
returns-then-not-counts_arguments g c =
    let f : FunctionValue = g.F.Function.function c.args.f.now in
    let less : c.loop-b.b < length f.blocks = omega (arith, c.loop-b.invariant.within) in (
      λ h. absurd (false≢true h),
      λ all. absurd (false≢true (sym c.if-not-counts_arguments.true ∙ c.counts_arguments.ensures.1 (rw c.new-block.ensures (all c.loop-b.b less)))),
    )

pub returns : goal.returns
returns g c = (λ h n less. c.loop-b.invariant.so_far n (omega (arith, c.loop-b.invariant.within)), λ h. refl)
