use Rattle.std.proofs.Common.{append_assoc}
use Rattle.std.proofs.Output.{has_written_of_eq}
use Rattle.codegen.proofs.text.assembly.TransferTextDisplay.fmt.Goals as goal

pub returns-in-Jump : goal.returns-in-Jump
returns-in-Jump c = λ c'. record { writes = λ plain ok. has_written_of_eq _ _ _ _ _ (rw c'.in-Jump.is (simp append_assoc)) (c'.write.ensures.writes plain ok); styled = tt }

pub returns-in-Return : goal.returns-in-Return
returns-in-Return c = λ c'. record { writes = λ plain ok. has_written_of_eq _ _ _ _ _ (rw c'.in-Return.is (simp append_assoc)) (c'.write-in-Return.ensures.writes plain ok); styled = tt }
