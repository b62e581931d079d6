use Rattle.std.proofs.Common.{ℕ, sym}
use Rattle.std.proofs.lemmas.List.{take_all}
use Rattle.std.proofs.lemmas.List.Elements.{All-more, All-same}
use Rattle.regalloc2_checker.specs.Cells.{IsInFrame}
use Rattle.regalloc2_checker.proofs.cells.test_frame.Goals as goal

pub loop-k-preserved : goal.loop-k-preserved
loop-k-preserved c =
    All-more (λ (s : ℕ × ℕ). IsInFrame c.args.by_last c.args.count s.0 s.1) c.args.named.now c.loop-k.k (0, 0) c.loop-k-test.true c.loop-k.invariant
    (c.is_in_frame.ensures.0 c.if-not-is_in_frame.false)

pub returns-clause-frame : goal.returns-clause-frame
returns-clause-frame c =
    All-same (λ (s : ℕ × ℕ). IsInFrame c.args.by_last c.args.count s.0 s.1) c.args.named.now _ (sym (take_all c.loop-k.k c.args.named.now c.loop-k-test.false))
    c.loop-k.invariant
