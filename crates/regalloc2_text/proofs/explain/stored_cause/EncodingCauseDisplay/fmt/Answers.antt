use Rattle.std.proofs.Common.{append_assoc}
use Rattle.std.proofs.Output.{has_written_of_eq}
use Rattle.regalloc2_text.proofs.explain.stored_cause.EncodingCauseDisplay.fmt.Goals as goal

pub returns-in-Register-clause-writes : goal.returns-in-Register-clause-writes
returns-in-Register-clause-writes g c = λ plain ok.
    has_written_of_eq _ _ _ _ _ (rw c.in-Register.is (simp append_assoc))
    (c.write.ensures.writes plain ok)

pub returns-in-OperandWord-clause-writes : goal.returns-in-OperandWord-clause-writes
returns-in-OperandWord-clause-writes g c = λ plain ok.
    has_written_of_eq _ _ _ _ _ (rw c.in-OperandWord.is (simp append_assoc))
    (c.write-in-OperandWord.ensures.writes plain ok)

pub returns-in-Clobber-clause-writes : goal.returns-in-Clobber-clause-writes
returns-in-Clobber-clause-writes g c = λ plain ok.
    has_written_of_eq _ _ _ _ _ (rw c.in-Clobber.is (simp append_assoc))
    (c.write-in-Clobber.ensures.writes plain ok)

pub returns-in-VRegWord-clause-writes : goal.returns-in-VRegWord-clause-writes
returns-in-VRegWord-clause-writes g c = λ plain ok.
    has_written_of_eq _ _ _ _ _ (rw c.in-VRegWord.is (simp append_assoc))
    (c.write-in-VRegWord.ensures.writes plain ok)

pub returns-in-LabelWord-clause-writes : goal.returns-in-LabelWord-clause-writes
returns-in-LabelWord-clause-writes g c = λ plain ok.
    has_written_of_eq _ _ _ _ _ (rw c.in-LabelWord.is (simp append_assoc))
    (c.write-in-LabelWord.ensures.writes plain ok)
