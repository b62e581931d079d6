use Rattle.std.proofs.Common.{◌≡◌, ◌<◌, length, refl, ap, arith, below_more, ◌∙◌, sym}
use Rattle.regalloc2_names.specs.declared.RegAllocError.TheVariants.{Branch}
use Rattle.regalloc2_function.specs.FunctionValue.{FunctionValue, block_at, last_of}
use Rattle.regalloc2_function.specs.WellFormed.{ArgumentsFitAt}
use Rattle.std.proofs.lemmas.Bool.{false≢true}
use Rattle.regalloc2_function.proofs.ssa.test_fit.Goals as goal

pub returns-then-not-arguments_fit-clause-err : goal.returns-then-not-arguments_fit-clause-err
returns-then-not-arguments_fit-clause-err g c =
    let f : FunctionValue = g.F.Function.function c.args.f.now in
    let less : c.new-block.result < length f.blocks = omega (arith, c.loop-b.invariant.whole, c.new-block.ensures) in
    let last : c.last-last.result ≡ last_of (block_at f c.new-block.result) = rw (c.last-last.ensures, c.block_insns.ensures) refl in (
      c.new-block.result,
      ap Branch last,
      (
        less,
        λ h. absurd (false≢true (sym c.if-not-arguments_fit.true ∙ c.arguments_fit.ensures.1 h)),
        λ m low. c.loop-b.invariant.so_far m (omega (arith, c.new-block.ensures)),
      ),
    )

pub loop-b-preserved : goal.loop-b-preserved
loop-b-preserved g c =
    let f : FunctionValue = g.F.Function.function c.args.f.now in
    record {
      whole = c.loop-b.invariant.whole;
      so_far = below_more (λ n. ArgumentsFitAt f n (block_at f n)) _ c.loop-b.invariant.so_far
          (rw c.new-block.ensures at (c.arguments_fit.ensures.0 c.if-not-arguments_fit.false));
    }

pub loop-b-init : goal.loop-b-init
loop-b-init g c = record { whole = c.num_blocks-b-end.ensures.count; so_far = λ n less. absurd (omega (arith, less)) }

pub block_insns-requires : goal.block_insns-requires
block_insns-requires g c = omega (arith, c.loop-b.invariant.whole, c.loop-b-test.true, c.new-block.ensures)

pub arguments_fit-requires-clause-block : goal.arguments_fit-requires-clause-block
arguments_fit-requires-clause-block g c = omega (arith, c.loop-b.invariant.whole, c.loop-b-test.true, c.new-block.ensures)

pub arguments_fit-requires-clause-last : goal.arguments_fit-requires-clause-last
arguments_fit-requires-clause-last g c =
    let f : FunctionValue = g.F.Function.function c.args.f.now in
    let less : c.new-block.result < length f.blocks = omega (arith, c.loop-b.invariant.whole, c.loop-b-test.true, c.new-block.ensures) in
    let last : c.last-last.result ≡ last_of (block_at f c.new-block.result) = rw (c.last-last.ensures, c.block_insns.ensures) refl in
    omega (arith, last, (c.requires.follow c.new-block.result less).0)

pub arguments_fit-requires-clause-nonempty : goal.arguments_fit-requires-clause-nonempty
arguments_fit-requires-clause-nonempty g c =
    let f : FunctionValue = g.F.Function.function c.args.f.now in
    let less : c.new-block.result < length f.blocks = omega (arith, c.loop-b.invariant.whole, c.loop-b-test.true, c.new-block.ensures) in
    let last : c.last-last.result ≡ last_of (block_at f c.new-block.result) = rw (c.last-last.ensures, c.block_insns.ensures) refl in
    omega (arith, last, (c.requires.follow c.new-block.result less).0)

pub arguments_fit-requires-clause-blocks : goal.arguments_fit-requires-clause-blocks
arguments_fit-requires-clause-blocks g c = c.requires.blocks

pub returns-clause-ok : goal.returns-clause-ok
returns-clause-ok g c = λ n less. c.loop-b.invariant.so_far n (omega (arith, less, c.loop-b.invariant.whole, c.loop-b-test.false))
