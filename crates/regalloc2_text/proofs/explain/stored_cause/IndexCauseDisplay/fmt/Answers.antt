use Rattle.std.proofs.Common.{codes, append_assoc}
use Rattle.std.proofs.Output.{has_written_of_eq}
use Rattle.regalloc2_text.proofs.ExplainLemmas.Joined.{joined_four, joined_eight}
use Rattle.regalloc2_text.proofs.explain.stored_cause.IndexCauseDisplay.fmt.Goals as goal

pub returns-in-Entry-clause-writes : goal.returns-in-Entry-clause-writes
returns-in-Entry-clause-writes g c = λ plain ok.
    has_written_of_eq _ _ _ _ _ (rw c.in-Entry.is (joined_four (codes "the entry is block") _ (codes ", and the function has ") _))
    (c.write.ensures.writes plain ok)

pub returns-in-Neighbour-clause-writes : goal.returns-in-Neighbour-clause-writes
returns-in-Neighbour-clause-writes g c = λ plain ok.
    has_written_of_eq _ _ _ _ _ (rw c.in-Neighbour.is
    (joined_eight (codes "block") _ (codes " lists block") _ (codes " as a ") _ (codes ", and the function has ") _))
    (c.write-in-Neighbour.ensures.writes plain ok)

pub returns-in-Range-clause-writes : goal.returns-in-Range-clause-writes
returns-in-Range-clause-writes g c = λ plain ok.
    has_written_of_eq _ _ _ _ _ (rw c.in-Range.is (simp append_assoc))
    (c.write-in-Range.ensures.writes plain ok)

pub returns-in-LabelPastCount-clause-writes : goal.returns-in-LabelPastCount-clause-writes
returns-in-LabelPastCount-clause-writes g c = λ plain ok.
    has_written_of_eq _ _ _ _ _ (rw c.in-LabelPastCount.is (simp append_assoc))
    (c.write-in-LabelPastCount.ensures.writes plain ok)
