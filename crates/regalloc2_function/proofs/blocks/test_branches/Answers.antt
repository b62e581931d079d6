use Rattle.std.proofs.Common.{◌≡◌, ◌<◌, ◌≤◌, length, refl, ap, below_more, arith, ◌∙◌, sym}
use Rattle.regalloc2_names.specs.declared.RegAllocError.TheVariants.{DisallowedBranchArg}
use Rattle.regalloc2_function.specs.FunctionValue.{FunctionValue, block_at, last_of}
use Rattle.regalloc2_function.specs.WellFormed.{NoOperandsAt}
use Rattle.regalloc2_function.proofs.Following.{end_within}
use Rattle.std.proofs.lemmas.Bool.{false≢true}
use Rattle.regalloc2_function.proofs.blocks.test_branches.Goals as goal

pub may_branch-requires-clause-within : goal.may_branch-requires-clause-within
may_branch-requires-clause-within g c =
    let f : FunctionValue = g.F.Function.function c.args.f.now in
    let less : c.new-block.result < length f.blocks = omega (arith, c.loop-b.invariant.within, c.new-block.ensures) in
    let end : (block_at f c.new-block.result).range.end ≤ length f.insts = end_within f c.requires.follow c.new-block.result less in
    let some : (block_at f c.new-block.result).range.first < (block_at f c.new-block.result).range.end = (c.requires.follow c.new-block.result less).0 in
    let last : c.last-last.result ≡ last_of (block_at f c.new-block.result) = rw (c.last-last.ensures, c.block_insns.ensures) refl in
    omega arith

pub returns-then-not-may_branch-clause-err : goal.returns-then-not-may_branch-clause-err
returns-then-not-may_branch-clause-err g c =
    let f : FunctionValue = g.F.Function.function c.args.f.now in
    let less : c.new-block.result < length f.blocks = omega (arith, c.loop-b.invariant.within, c.new-block.ensures) in
    let last : c.last-last.result ≡ last_of (block_at f c.new-block.result) = rw (c.last-last.ensures, c.block_insns.ensures) refl in (
      c.new-block.result,
      ap DisallowedBranchArg last,
      (
        less,
        λ passes. absurd (false≢true (sym c.if-not-may_branch.true ∙ c.may_branch.ensures.1 passes)),
        λ m low. c.loop-b.invariant.so_far m (omega (arith, c.new-block.ensures)),
      ),
    )

pub loop-b-preserved : goal.loop-b-preserved
loop-b-preserved g c =
    let f : FunctionValue = g.F.Function.function c.args.f.now in
    record {
      within = c.loop-b.invariant.within;
      so_far = below_more (λ n. NoOperandsAt f n (block_at f n)) _ c.loop-b.invariant.so_far
          (rw c.new-block.ensures at (c.may_branch.ensures.0 c.if-not-may_branch.false));
    }

pub loop-b-init : goal.loop-b-init
loop-b-init g c = record { within = c.num_blocks-b-end.ensures.count; so_far = λ n less. absurd (omega (arith, less)) }

pub block_insns-requires : goal.block_insns-requires
block_insns-requires g c = omega (arith, c.loop-b.invariant.within, c.loop-b-test.true, c.new-block.ensures)

pub may_branch-requires-clause-block : goal.may_branch-requires-clause-block
may_branch-requires-clause-block g c = omega (arith, c.loop-b.invariant.within, c.loop-b-test.true, c.new-block.ensures)

pub may_branch-requires-clause-last : goal.may_branch-requires-clause-last
may_branch-requires-clause-last g c = rw (c.last-last.ensures, c.block_insns.ensures) refl

pub may_branch-requires-clause-blocks : goal.may_branch-requires-clause-blocks
may_branch-requires-clause-blocks g c = c.requires.blocks

pub returns-clause-ok : goal.returns-clause-ok
returns-clause-ok g c = λ n less. c.loop-b.invariant.so_far n (omega (arith, less, c.loop-b.invariant.within, c.loop-b-test.false))
