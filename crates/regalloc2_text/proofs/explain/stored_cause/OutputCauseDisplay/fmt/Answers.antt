use Rattle.std.proofs.Common.{append_assoc}
use Rattle.std.proofs.Output.{has_written_of_eq}
use Rattle.regalloc2_text.proofs.explain.stored_cause.OutputCauseDisplay.fmt.Goals as goal

pub returns-in-Place-clause-writes : goal.returns-in-Place-clause-writes
returns-in-Place-clause-writes g c = λ plain ok.
    has_written_of_eq _ _ _ _ _ (rw c.in-Place.is (simp append_assoc))
    (c.write-in-Place.ensures.writes plain ok)
