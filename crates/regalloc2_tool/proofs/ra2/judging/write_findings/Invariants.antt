use Rattle.std.specs.Prelude.{take}
use Rattle.std.specs.Io.KnownBytes.{Appends}
use Rattle.regalloc2_tool.specs.Ra2.Findings.{findings_text}
use Rattle.regalloc2_tool.proofs.ra2.judging.write_findings.Given as goal

abbrev pub invariant-loop-error : goal.invariant-loop-error
invariant-loop-error g l = Appends (g.O.Write.contents l.fn.out) (g.O.Write.contents l.out) (findings_text (take l.error-index l.errors))
