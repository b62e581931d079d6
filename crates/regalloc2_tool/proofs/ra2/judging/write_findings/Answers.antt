use Rattle.std.proofs.Common.{refl}
use Rattle.std.proofs.KnownBytes.{Appends-nil}
use Rattle.regalloc2_tool.proofs.Ra2Lemmas.FindingsWritten.{next_finding, no_more_findings}
use Rattle.regalloc2_tool.proofs.ra2.judging.write_findings.Goals as goal

pub loop-error-init : goal.loop-error-init
loop-error-init g c = Appends-nil (g.O.Write.contents c.args.out.now)

pub loop-error-preserved : goal.loop-error-preserved
loop-error-preserved g c =
    next_finding c.args.errors.now c.loop-error.error-index c.error-item.result _ _ _ c.loop-error-test.true c.error-item.is c.loop-error.invariant
    c.in_ok-write_finding.ensures.1

pub returns : goal.returns
returns g c = (refl, no_more_findings c.args.errors.now c.loop-error.error-index _ _ c.loop-error-test.false c.loop-error.invariant)
