use Rattle.std.proofs.Common.{append_assoc}
use Rattle.std.proofs.Output.{has_written_of_eq}
use Rattle.regalloc2_text.proofs.explain.stored_cause.LimitCauseDisplay.fmt.Goals as goal

pub returns-in-TooMany-clause-writes : goal.returns-in-TooMany-clause-writes
returns-in-TooMany-clause-writes g c = λ plain ok.
    has_written_of_eq _ _ _ _ _ (rw c.in-TooMany.is (simp append_assoc))
    (c.write.ensures.writes plain ok)

pub returns-in-SlotSize-clause-writes : goal.returns-in-SlotSize-clause-writes
returns-in-SlotSize-clause-writes g c = λ plain ok.
    has_written_of_eq _ _ _ _ _ (rw c.in-SlotSize.is (simp append_assoc))
    (c.write-in-SlotSize.ensures.writes plain ok)
