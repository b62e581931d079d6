use Rattle.std.proofs.Common.{codes}
use Rattle.std.proofs.Output.{has_written_of_eq}
use Rattle.regalloc2_text.proofs.ExplainLemmas.Joined.{joined_six}
use Rattle.regalloc2_text.proofs.explain.stored_cause.LengthCauseDisplay.fmt.Goals as goal

pub returns-in-ArgumentLists-clause-writes : goal.returns-in-ArgumentLists-clause-writes
returns-in-ArgumentLists-clause-writes g c = λ plain ok.
    has_written_of_eq _ _ _ _ _ (rw c.in-ArgumentLists.is (joined_six (codes "block") _ (codes " has ") _ (codes " of arguments for ") _))
    (c.write-in-ArgumentLists.ensures.writes plain ok)
