use Rattle.std.proofs.Common.{rules}
use Rattle.std.proofs.Output.{has_written_append, has_written_of_eq}
use Rattle.std.specs.Fmt.{HasWritten}
use Rattle.regalloc2_checker.specs.Text.{next_vreg_text}
use Rattle.regalloc2_checker.proofs.NextVRegs.{next_more, next_all}
use Rattle.regalloc2_checker.proofs.texts.NextVRegsDisplay.fmt.Goals as goal

pub loop-vreg-init : goal.loop-vreg-init
loop-vreg-init g c = λ p. search rules

pub loop-vreg-preserved : goal.loop-vreg-preserved
loop-vreg-preserved g c = λ p.
    let line : HasWritten g.W.Write.write_str_gives c.loop-vreg.f (next_vreg_text c.vreg-item.result) c.write.new.self = search rules in
    has_written_of_eq _ _ _ _ _ (next_more c.args.self.now.0.now c.loop-vreg.vreg-index c.vreg-item.result c.loop-vreg-test.true c.vreg-item.is)
    (has_written_append _ _ _ _ _ _ (c.loop-vreg.invariant p) line)

pub returns-clause-writes : goal.returns-clause-writes
returns-clause-writes g c = λ p e.
    has_written_of_eq _ _ _ _ _ (next_all c.args.self.now.0.now c.loop-vreg.vreg-index c.loop-vreg-test.false) (c.loop-vreg.invariant p)
