-- The words that say what a failure is about, beside its number.
use Rattle.std.specs.Prelude.{ℕ, min, List, [], ◌∷◌}
use Rattle.regalloc2_names.specs.Register.{class_code}
use Rattle.regalloc2_names.specs.RegisterBits.{bits_of_register, bits_of_vreg}
use Rattle.regalloc2_names.specs.declared.RegAllocError.{RegAllocError}
use Rattle.regalloc2_names.specs.declared.RegAllocError.TheVariants.{CritEdge, SSA, BB, Branch, EntryLivein, DisallowedBranchArg, TooManyLiveRegs}
use Rattle.regalloc2_names.specs.declared.RegAllocError.TheVariants.{TooManyOperands, Unsupported, TooManySpillSlots, Memory}
use Rattle.regalloc2_function.specs.declared.misfit.MachineMisfit.{MachineMisfit}
use Rattle.regalloc2_function.specs.declared.misfit.MachineMisfit.TheVariants.{InvalidSlot, OtherClass, ListedTwice, InvalidRegister}
use Rattle.regalloc2_function.specs.declared.misfit.MachineMisfit.TheVariants.{ScratchOfOtherClass, ScratchAllocatable, InvalidScratch}
use Rattle.regalloc2_function.specs.declared.misfit.MachineMisfit.TheVariants.{SlotAllocatable, SlotIsScratch, NoRegister}
use Rattle.regalloc2_c.specs.declared.failure.Failure.{Failure}
use Rattle.regalloc2_c.specs.declared.failure.Failure.TheVariants.{Unreadable, BadMachine, NoRoom, Faults, NoMemory, NotFramed, BadOutput}
use Rattle.regalloc2_c.specs.declared.failure.Failure.TheVariants.{ReadBeforeWritten, BadText, BadFunction, Refused}

-- the word of what an error doesn't name
abbrev pub none : ℕ
none = 4294967295

-- a number as a word, the greatest one if it is greater
abbrev pub as_word : ℕ → ℕ
as_word n = min n none

-- which condition of a machine fails, by the order in which they are listed, the class, and the register
abbrev pub misfit_words : MachineMisfit → List ℕ
misfit_words InvalidSlot = 1 ∷ none ∷ none ∷ []
misfit_words (OtherClass class r) = 2 ∷ class_code class ∷ bits_of_register r ∷ []
misfit_words (ListedTwice class r) = 3 ∷ class_code class ∷ bits_of_register r ∷ []
misfit_words (InvalidRegister class) = 4 ∷ class_code class ∷ none ∷ []
misfit_words (ScratchOfOtherClass class r) = 5 ∷ class_code class ∷ bits_of_register r ∷ []
misfit_words (ScratchAllocatable class r) = 6 ∷ class_code class ∷ bits_of_register r ∷ []
misfit_words (InvalidScratch class) = 7 ∷ class_code class ∷ none ∷ []
misfit_words (SlotAllocatable class r) = 8 ∷ class_code class ∷ bits_of_register r ∷ []
misfit_words (SlotIsScratch class r) = 9 ∷ class_code class ∷ bits_of_register r ∷ []
misfit_words (NoRegister class) = 10 ∷ class_code class ∷ none ∷ []

-- two blocks, an instruction, and a vreg
abbrev pub refusal_payload : RegAllocError → List ℕ
refusal_payload (CritEdge p b) = p ∷ b ∷ none ∷ none ∷ []
refusal_payload (SSA v i) = none ∷ none ∷ i ∷ bits_of_vreg v ∷ []
refusal_payload (BB b) = b ∷ none ∷ none ∷ none ∷ []
refusal_payload (Branch i) = none ∷ none ∷ i ∷ none ∷ []
refusal_payload EntryLivein = none ∷ none ∷ none ∷ none ∷ []
refusal_payload (DisallowedBranchArg i) = none ∷ none ∷ i ∷ none ∷ []
refusal_payload TooManyLiveRegs = none ∷ none ∷ none ∷ none ∷ []
refusal_payload TooManyOperands = none ∷ none ∷ none ∷ none ∷ []
refusal_payload (Unsupported i) = none ∷ none ∷ i ∷ none ∷ []
refusal_payload TooManySpillSlots = none ∷ none ∷ none ∷ none ∷ []
refusal_payload Memory = none ∷ none ∷ none ∷ none ∷ []

-- the words of a failure beside its number; a text has a line and a column
abbrev pub failure_words : Failure → List ℕ
failure_words Unreadable = []
failure_words (BadMachine m) = misfit_words m
failure_words NoRoom = []
failure_words (Faults v) = v.items
failure_words NoMemory = []
failure_words NotFramed = []
failure_words BadOutput = []
failure_words ReadBeforeWritten = []
failure_words (BadText line column) = line ∷ column ∷ []
failure_words (BadFunction fault) = []
failure_words (Refused error) = refusal_payload error
