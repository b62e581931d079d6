use Rattle.std.proofs.Common.{◌≡◌, ℕ, length, ap, refl, subst, arith}
use Rattle.regalloc2_function.specs.declared.listing.Edit.{Edit}
use Rattle.regalloc2_checker.specs.ListingCopied.{AreBeforePoint}
use Rattle.regalloc2_checker.proofs.CopiedListing.{passed_more, split_here, split_end}
use Rattle.regalloc2_checker.proofs.output.first_from.Goals as goal

pub loop-k-init : goal.loop-k-init
loop-k-init c = record { end = refl; low = omega arith; high = c.requires.from; passed = c.requires.passed }

pub loop-k-preserved : goal.loop-k-preserved
loop-k-preserved c = record {
  end = c.loop-k.invariant.end;
  low = omega (arith, c.loop-k.invariant.low);
  high = omega (arith, c.loop-k-test.true, c.loop-k.invariant.end);
  passed = passed_more c.args.edits.now c.loop-k.k c.args.point c.index-edits-k.result (omega (arith, c.loop-k-test.true, c.loop-k.invariant.end))
      c.index-edits-k.is (omega (arith, c.if-from-point.false, ap (λ (e : ℕ × Edit). e.0) c.index-edits-k.is)) c.loop-k.invariant.passed;
}

pub returns-then-from-point-clause-split : goal.returns-then-from-point-clause-split
returns-then-from-point-clause-split c =
    split_here c.args.edits.now c.loop-k.k c.args.point c.index-edits-k.result c.requires.sorted (omega (arith, c.loop-k-test.true, c.loop-k.invariant.end))
    c.index-edits-k.is (omega (arith, c.if-from-point.true, ap (λ (e : ℕ × Edit). e.0) c.index-edits-k.is)) c.loop-k.invariant.passed

pub returns-clause-split : goal.returns-clause-split
returns-clause-split c =
    let all : c.loop-k.k ≡ length c.args.edits.now = omega (arith, c.loop-k-test.false, c.loop-k.invariant.end, c.loop-k.invariant.high) in
    split_end c.args.edits.now (length c.args.edits.now) c.args.point refl
    (subst (λ (n : ℕ). AreBeforePoint c.args.edits.now n c.args.point) all c.loop-k.invariant.passed)
