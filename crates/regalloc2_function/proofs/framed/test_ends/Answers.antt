use Rattle.std.proofs.Common.{◌<◌, length, refl, below_more, arith, sym, ◌∙◌}
use Rattle.std.proofs.lemmas.Bool.{false≢true}
use Rattle.regalloc2_function.specs.FunctionValue.{FunctionValue, block_at}
use Rattle.regalloc2_function.specs.WellFormed.{EndsAt}
use Rattle.regalloc2_function.proofs.Following.{end_within}
use Rattle.regalloc2_function.proofs.framed.test_ends.Goals as goal

pub ends-requires-clause-within : goal.ends-requires-clause-within
ends-requires-clause-within g c =
    let f : FunctionValue = g.F.Function.function c.args.f.now in
    let less : c.new-block.result < length f.blocks = omega (arith, c.loop-b.invariant.within, c.new-block.ensures) in
    end_within f c.requires c.new-block.result less

pub returns-then-not-ends-clause-first : goal.returns-then-not-ends-clause-first
returns-then-not-ends-clause-first g c =
    let f : FunctionValue = g.F.Function.function c.args.f.now in
    let less : c.new-block.result < length f.blocks = omega (arith, c.loop-b.invariant.within, c.new-block.ensures) in
    (c.new-block.result, refl, (less, λ h. false≢true (sym c.if-not-ends.true ∙ c.ends.ensures.1 h), λ m low. c.loop-b.invariant.so_far m (omega (arith, c.new-block.ensures))))

pub loop-b-preserved : goal.loop-b-preserved
loop-b-preserved g c =
    let f : FunctionValue = g.F.Function.function c.args.f.now in
    record {
      within = c.loop-b.invariant.within;
      so_far = below_more (λ n. EndsAt f n (block_at f n)) _ c.loop-b.invariant.so_far (rw c.new-block.ensures at (c.ends.ensures.0 c.if-not-ends.false));
    }

pub returns-clause-ok : goal.returns-clause-ok
returns-clause-ok g c = (λ h n less. c.loop-b.invariant.so_far n (omega (arith, c.loop-b.invariant.within)), λ h. refl)

pub ends-requires-clause-block : goal.ends-requires-clause-block
ends-requires-clause-block g c = omega (arith, c.loop-b.invariant.within, c.new-block.ensures)

pub ends-requires-clause-nonempty : goal.ends-requires-clause-nonempty
ends-requires-clause-nonempty g c =
    let f : FunctionValue = g.F.Function.function c.args.f.now in
    let less : c.new-block.result < length f.blocks = omega (arith, c.loop-b.invariant.within, c.new-block.ensures) in
    (c.requires c.new-block.result less).0

pub returns-then-not-ends-clause-ok : goal.returns-then-not-ends-clause-ok
returns-then-not-ends-clause-ok g c =
    let f : FunctionValue = g.F.Function.function c.args.f.now in
    let less : c.loop-b.b < length f.blocks = omega (arith, c.loop-b.invariant.within) in (
      λ h. absurd (false≢true h),
      λ all. absurd (false≢true (sym c.if-not-ends.true ∙ c.ends.ensures.1 (rw c.new-block.ensures (all c.loop-b.b less)))),
    )
