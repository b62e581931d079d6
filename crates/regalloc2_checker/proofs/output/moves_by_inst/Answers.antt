use Rattle.std.proofs.Common.{ℕ, ◌≡◌, length, subst, arith}
use Rattle.regalloc2_function.specs.FunctionValue.{FunctionValue}
use Rattle.regalloc2_function.specs.Views.{output_of}
use Rattle.regalloc2_checker.specs.ListingCopied.{IsListedBefore}
use Rattle.regalloc2_checker.proofs.CopiedListing.{listed_none, listed_all}
use Rattle.regalloc2_checker.proofs.output.moves_by_inst.Goals as goal

pub loop-b-init : goal.loop-b-init
loop-b-init g c = record {
  within = c.num_blocks-b-end.ensures.count;
  low = omega arith;
  edits = omega arith;
  passed = λ k d less. absurd (omega arith);
  listed = listed_none _ _ _ _ c.in_ok-listing.ensures.items;
}

pub loop-b-preserved : goal.loop-b-preserved
loop-b-preserved g c = record {
  within = c.loop-b.invariant.within;
  low = omega (arith, c.loop-b-test.true, c.loop-b.invariant.within);
  edits = c.in_ok-passed.ensures.within;
  passed = c.in_ok-passed.ensures.passed;
  listed = rw c.new.ensures at c.in_ok-passed.ensures.listed;
}

pub list_block-requires : goal.list_block-requires
list_block-requires g c = record {
  framed = c.requires.framed;
  in_order = c.requires.in_order;
  block = omega (arith, c.new.ensures, c.loop-b-test.true, c.loop-b.invariant.within);
  within = c.loop-b.invariant.edits;
  passed = c.loop-b.invariant.passed;
  before = rw c.new.ensures c.loop-b.invariant.listed;
}

pub returns : goal.returns
returns g c =
    let f : FunctionValue = g.F.Function.function c.args.f.now in
    let all : c.loop-b.b ≡ length f.blocks = omega (arith, c.loop-b-test.false, c.loop-b.invariant.within, c.loop-b.invariant.low) in
    listed_all f (output_of c.args.out.now) c.args.out.now.edits.items c.loop-b.listing.items c.requires.framed
    (subst (λ (n : ℕ). IsListedBefore f (output_of c.args.out.now) c.args.out.now.edits.items n c.loop-b.listing.items) all c.loop-b.invariant.listed)
