use Rattle.std.proofs.Common.{refl}
use Rattle.std.proofs.Output.{has_written_of_eq}
use Rattle.codegen.proofs.text.assembly.InstructionTextDisplay.fmt.Goals as goal

pub returns-in-Compute : goal.returns-in-Compute
returns-in-Compute c = λ c'. record { writes = λ plain ok. rw (c'.in-Compute.is, ← c'.operator_name-name.ensures) (c'.fmt-in-Compute.ensures.writes plain ok); styled = tt }

pub returns-in-Shift : goal.returns-in-Shift
returns-in-Shift c = λ c'. record { writes = λ plain ok. rw c'.in-Shift.is (c'.fmt-in-Shift.ensures.writes plain ok); styled = tt }

pub returns-in-ShiftBy : goal.returns-in-ShiftBy
returns-in-ShiftBy c = λ c'. record { writes = λ plain ok. rw c'.in-ShiftBy.is (c'.fmt-in-ShiftBy.ensures.writes plain ok); styled = tt }

pub returns-in-Divide : goal.returns-in-Divide
returns-in-Divide c = λ c'. record { writes = λ plain ok. rw c'.in-Divide.is (c'.fmt-in-Divide.ensures.writes plain ok); styled = tt }

pub returns-in-Compare : goal.returns-in-Compare
returns-in-Compare c = λ c'. record { writes = λ plain ok. rw c'.in-Compare.is (c'.fmt-in-Compare.ensures.writes plain ok); styled = tt }

pub returns-in-Set : goal.returns-in-Set
returns-in-Set c = λ c'. record { writes = λ plain ok. rw c'.in-Set.is (c'.fmt-in-Set.ensures.writes plain ok); styled = tt }

pub returns-in-MoveIf : goal.returns-in-MoveIf
returns-in-MoveIf c = λ c'. record { writes = λ plain ok. rw c'.in-MoveIf.is (c'.fmt-in-MoveIf.ensures.writes plain ok); styled = tt }

pub returns-in-Read : goal.returns-in-Read
returns-in-Read c = λ c'. record { writes = λ plain ok. rw c'.in-Read.is (c'.fmt-in-Read.ensures.writes plain ok); styled = tt }

pub returns-in-Write : goal.returns-in-Write
returns-in-Write c = λ c'. record { writes = λ plain ok. rw c'.in-Write.is (c'.fmt-in-Write.ensures.writes plain ok); styled = tt }

pub returns-in-Guard : goal.returns-in-Guard
returns-in-Guard c = λ c'. record { writes = λ plain ok. rw c'.in-Guard.is (c'.fmt-in-Guard.ensures.writes plain ok); styled = tt }

pub returns-in-Test : goal.returns-in-Test
returns-in-Test c = λ c'. record { writes = λ plain ok. has_written_of_eq _ _ _ _ _ (rw c'.in-Test.is refl) (c'.write.ensures.writes plain ok); styled = tt }
