use Rattle.codegen.proofs.text.assembly.MoveTextDisplay.fmt.Goals as goal

pub returns-in-Clear : goal.returns-in-Clear
returns-in-Clear c = λ c'. record { writes = λ plain ok. rw c'.in-Clear.is (c'.fmt.ensures.writes plain ok); styled = tt }

pub returns-in-Move : goal.returns-in-Move
returns-in-Move c = λ c'. record { writes = λ plain ok. rw c'.in-Move.is (c'.fmt-in-Move.ensures.writes plain ok); styled = tt }

pub returns-in-Load : goal.returns-in-Load
returns-in-Load c = λ c'. record { writes = λ plain ok. rw c'.in-Load.is (c'.fmt-in-Load.ensures.writes plain ok); styled = tt }
