-- What the statuses mean.
use Rattle.std.specs.Prelude.{ℕ, ◌≡◌, ◌≤◌, ◌⊎◌, true, List, [], map, All, Some, Result, Ok, Err}
use Rattle.std.specs.List.{flat_map}
use Rattle.std.specs.Global.{Vec}
use Rattle.std.specs.Str.{IsUtf8}
use Rattle.std.specs.declared.alloc.Global.{Global}
use Rattle.serde_json.specs.Data.{Data}
use Rattle.serde_json.specs.Read.{read}
use Rattle.regalloc2.specs.FunctionValue.{FunctionValue}
use Rattle.regalloc2.specs.Machine.{MachineValue}
use Rattle.regalloc2.specs.Fitting.{MachineFits}
use Rattle.regalloc2_function.specs.Misfit.{IsMisfit}
use Rattle.regalloc2.specs.OutputValue.{OutputValue, MoveValue, IsInOrder}
use Rattle.regalloc2.specs.Stored.{NamesMove, NamesValues, stored_move, output_of_stored}
use Rattle.regalloc2.specs.Faithful.{IsFaithful}
use Rattle.regalloc2_checker.specs.Cells.{AreCells}
use Rattle.regalloc2.specs.WellFormed.{IsWellFormed, IsFramed}
use Rattle.regalloc2.specs.Guarantee.{IsAllocation, RunsAsTheFunction, LiveInSlots}
use Rattle.regalloc2.specs.Runs.{IsDefinitelyAssigned}
use Rattle.regalloc2.specs.ErrorReason.{IsReason, PassesAllChecks}
use Rattle.regalloc2_function.specs.declared.serialize.StoredOutput.{StoredOutput}
use Rattle.regalloc2_serialize.specs.Decoded.{NamesFunction, NamesMachine}
use Rattle.regalloc2_serialize.specs.JsonShape.{IsFunctionAt}
use Rattle.regalloc2_serialize.specs.Validity.{IsSoundStored, IsFaultOf}
use Rattle.regalloc2_serialize.specs.declared.data.StoredFunction.{StoredFunction}
use Rattle.regalloc2_function.specs.declared.serialize.StoredFault.{StoredFault}
use Rattle.regalloc2_serialize.specs.Flat.Columns.Sound.{AreSoundColumns, IsColumnsFault}
use Rattle.regalloc2_serialize.specs.Flat.Columns.Value.{IsLaidOutAs, IsMachineOf}
use Rattle.regalloc2_serialize.specs.Flat.Flat.{HasLongWord, output_words, words_of_triple}
use Rattle.regalloc2_c.specs.Status.{failure_number, columns_failure}
use Rattle.regalloc2_c.specs.Handing.{IsHandedOut}
use Rattle.regalloc2_c.specs.Faults.{AreFaultsOf, faults_words}
use Rattle.regalloc2.specs.Report.{IsReport}
use Rattle.regalloc2_checker.specs.declared.errors.CheckerError.{CheckerError}
use Rattle.regalloc2_text.specs.declared.cursor.error.TextError.{TextError}
use Rattle.regalloc2_text.specs.declared.cursor.error.TextError.TheVariants.{Fault as TextFault, Memory as TextMemory}
use Rattle.regalloc2_c.specs.Payload.{as_word}
use Rattle.regalloc2_c.specs.declared.failure.Failure.{Failure}
use Rattle.regalloc2_c.specs.declared.failure.Failure.TheVariants.{Unreadable, BadMachine, NoRoom, Faults, NoMemory, NotFramed, BadOutput, ReadBeforeWritten}
use Rattle.regalloc2_c.specs.declared.failure.Failure.TheVariants.{BadText, BadFunction, Refused}

-- words lay out a function and a machine in columns
pub record AreWordsOf (words : List ℕ) (f : FunctionValue) (env : MachineValue) : Type 0 where
  pub sound : AreSoundColumns words
  pub function : IsLaidOutAs words f
  pub machine : IsMachineOf words env

-- why words lay out none
abbrev pub AreUnreadWords : List ℕ → Failure → Type 0
AreUnreadWords words e = (fault : StoredFault) × (e ≡ columns_failure fault) × IsColumnsFault words fault

-- a JSON text has the numbers of a function; of any other text no more is said than that it is one
abbrev pub IsJsonOf : List ℕ → StoredFunction Global → Type 0
IsJsonOf bytes s = IsUtf8 bytes × (d : Data) × (read bytes ≡ Some d) × IsFunctionAt d s

abbrev pub IsTextInput : List ℕ → StoredFunction Global → Type 0
IsTextInput bytes s = IsUtf8 bytes

-- why an input of `lines` lines gives no numbers: it has none, a line can't be read, or memory ran out; JSON has no lines
abbrev pub HasNoNumbers : (StoredFunction Global → Type 0) → ℕ → Failure → Type 0
HasNoNumbers Lays lines Unreadable = (s : StoredFunction Global) → Lays s → ⊥
HasNoNumbers Lays lines (BadMachine m) = ⊥
HasNoNumbers Lays lines NoRoom = ⊥
HasNoNumbers Lays lines (Faults v) = ⊥
HasNoNumbers Lays lines NoMemory = Unit {0}
HasNoNumbers Lays lines NotFramed = ⊥
HasNoNumbers Lays lines BadOutput = ⊥
HasNoNumbers Lays lines ReadBeforeWritten = ⊥
HasNoNumbers Lays lines (BadText line column) = (1 ≤ line) × (line ≤ lines) × (1 ≤ column)
HasNoNumbers Lays lines (BadFunction fault) = ⊥
HasNoNumbers Lays lines (Refused error) = ⊥

-- the failure where a text isn't read
abbrev pub IsTextFailure : TextError → Failure → Type 0
IsTextFailure (TextFault fault) e = (e ≡ BadText (as_word fault.line) (as_word fault.column)) × (1 ≤ fault.column)
IsTextFailure TextMemory e = e ≡ NoMemory

-- numbers name a function and a machine
pub record NumbersNameFunction (s : StoredFunction Global) (f : FunctionValue) (env : MachineValue) : Type 0 where
  pub sound : IsSoundStored s
  pub function : NamesFunction s f
  pub machine : NamesMachine s.machine_env env

-- the numbers of an input name a function and a machine
abbrev pub NumbersName : (StoredFunction Global → Type 0) → FunctionValue → MachineValue → Type 0
NumbersName Lays f env = (s : StoredFunction Global) × Lays s × NumbersNameFunction s f env

-- why they name none
abbrev pub IsBadFunction : StoredFunction Global → Failure → Type 0
IsBadFunction s e = (fault : StoredFault) × (e ≡ BadFunction fault) × IsFaultOf s fault

abbrev pub NumbersNameNone : (StoredFunction Global → Type 0) → ℕ → Failure → Type 0
NumbersNameNone Lays lines e = HasNoNumbers Lays lines e ⊎ ((s : StoredFunction Global) × Lays s × IsBadFunction s e)

-- numbers name an output
abbrev pub NumbersNameOutput : StoredOutput Global → OutputValue → Type 0
NumbersNameOutput o out = NamesValues o × (out ≡ output_of_stored o)

-- an output's numbers are laid out as words; or in parts, without debug locations
abbrev pub AreOutputWords : List ℕ → StoredOutput Global → Type 0
AreOutputWords words o = words ≡ output_words o

pub record ArePartsOf (num_spillslots : ℕ) (moves places offsets : List ℕ) (o : StoredOutput Global) : Type 0 where
  pub units : num_spillslots ≡ o.num_spillslots
  pub moves_of : moves ≡ flat_map words_of_triple o.edits.items
  pub places_of : places ≡ o.allocs.items
  pub offsets_of : offsets ≡ o.inst_alloc_offsets.items
  pub no_locations : o.debug_locations.items ≡ []

-- `words` are the words of moves, three words each
pub record AreMovesOf (words : List ℕ) (edits : List (ℕ × MoveValue)) : Type 0 where
  pub numbers : List (ℕ × ℕ × ℕ)
  pub words_of : words ≡ flat_map words_of_triple numbers
  pub names : All NamesMove numbers
  pub moves : edits ≡ map stored_move numbers

-- why `words` are the words of no moves
abbrev pub NamesNoMoves : List ℕ → Failure → Type 0
NamesNoMoves words e = (e ≡ NoMemory)
    ⊎ ((e ≡ Unreadable) × ((numbers : List (ℕ × ℕ × ℕ)) → words ≡ flat_map words_of_triple numbers → ⊥))
    ⊎ ((e ≡ BadOutput) × (numbers : List (ℕ × ℕ × ℕ)) × (words ≡ flat_map words_of_triple numbers) × (All NamesMove numbers → ⊥))

-- an output that is laid out
pub record IsOutput (Lays : StoredOutput Global → Type 0) (out : OutputValue) : Type 0 where
  pub stored : StoredOutput Global
  pub laid_out : Lays stored
  pub names : NumbersNameOutput stored out

-- `words` are the words of an output of a function, with all that `allocate` guarantees
pub record IsAllocatedOutput (f : FunctionValue) (env : MachineValue) (words : List ℕ) : Type 0 where
  pub out : OutputValue
  pub output : IsOutput (AreOutputWords words) out
  pub fitting : MachineFits f env
  pub well_formed : IsWellFormed env f
  pub passes_checks : PassesAllChecks f env true
  pub allocation : IsAllocation f env out
  pub faithful : IsFaithful f env out

-- `words` are the words of an output of a function, with all that `run_tested` guarantees
pub record IsTestedOutput (f : FunctionValue) (env : MachineValue) (words : List ℕ) : Type 0 where
  pub out : OutputValue
  pub output : IsOutput (AreOutputWords words) out
  pub fitting : MachineFits f env
  pub well_formed : IsWellFormed env f
  pub passes_checks : PassesAllChecks f env true
  pub allocation : IsAllocation f env out
  pub runs : RunsAsTheFunction f env out
  pub live : LiveInSlots f out allocation.owners.owner
  pub written : IsDefinitelyAssigned f

-- why nothing is allocated to a function
abbrev pub IsAllocateFailure : FunctionValue → MachineValue → Failure → Type 0
IsAllocateFailure f env Unreadable = ⊥
IsAllocateFailure f env (BadMachine m) = IsMisfit f env m × (MachineFits f env → ⊥)
IsAllocateFailure f env NoRoom = (words : List ℕ) × IsAllocatedOutput f env words × HasLongWord words
IsAllocateFailure f env (Faults v) = (out : OutputValue) × IsAllocation f env out × (IsFaithful f env out → ⊥)
    × (es : List (CheckerError Global)) × IsReport f env out es × (v.items ≡ faults_words f out es)
IsAllocateFailure f env NoMemory = Unit {0}
IsAllocateFailure f env NotFramed = ⊥
IsAllocateFailure f env BadOutput = ⊥
IsAllocateFailure f env ReadBeforeWritten = ⊥
IsAllocateFailure f env (BadText line column) = ⊥
IsAllocateFailure f env (BadFunction fault) = ⊥
IsAllocateFailure f env (Refused error) = MachineFits f env × IsReason f env true error

-- why a tested run gives none
abbrev pub IsRunFailure : FunctionValue → MachineValue → Failure → Type 0
IsRunFailure f env Unreadable = ⊥
IsRunFailure f env (BadMachine m) = IsMisfit f env m × (MachineFits f env → ⊥)
IsRunFailure f env NoRoom = (words : List ℕ) × IsTestedOutput f env words × HasLongWord words
IsRunFailure f env (Faults v) = ⊥
IsRunFailure f env NoMemory = Unit {0}
IsRunFailure f env NotFramed = ⊥
IsRunFailure f env BadOutput = ⊥
IsRunFailure f env ReadBeforeWritten = MachineFits f env × PassesAllChecks f env true × (IsDefinitelyAssigned f → ⊥)
IsRunFailure f env (BadText line column) = ⊥
IsRunFailure f env (BadFunction fault) = ⊥
IsRunFailure f env (Refused error) = MachineFits f env × IsReason f env true error

-- what an input comes to: words for the function and the machine that it names; or a failure: it names none, or that is why there are no words
abbrev pub ResultsIn : (Names : FunctionValue → MachineValue → Type 0) (None : Failure → Type 0)
    (Are : FunctionValue → MachineValue → List ℕ → Type 0) (Why : FunctionValue → MachineValue → Failure → Type 0) → Result (Vec ℕ) Failure → Type 0
ResultsIn Names None Are Why (Ok v) = (f : FunctionValue) × (env : MachineValue) × Names f env × Are f env v.items
ResultsIn Names None Are Why (Err e) = None e ⊎ ((f : FunctionValue) × (env : MachineValue) × Names f env × Why f env e)

abbrev pub IsAllocationFound : (FunctionValue → MachineValue → Type 0) → (Failure → Type 0) → Result (Vec ℕ) Failure → Type 0
IsAllocationFound Names None found = ResultsIn Names None IsAllocatedOutput IsAllocateFailure found

abbrev pub IsRunFound : List ℕ → Result (Vec ℕ) Failure → Type 0
IsRunFound words found = ResultsIn (AreWordsOf words) (AreUnreadWords words) IsTestedOutput IsRunFailure found

-- what a call hands out
abbrev pub IsAllocateOutcome : (FunctionValue → MachineValue → Type 0) → (Failure → Type 0) → List ℕ → List ℕ → ℕ → ℕ → Type 0
IsAllocateOutcome Names None old now needed got = (found : Result (Vec ℕ) Failure) × IsAllocationFound Names None found × IsHandedOut found old now needed got

abbrev pub IsRunOutcome : List ℕ → List ℕ → List ℕ → ℕ → ℕ → Type 0
IsRunOutcome words old now needed got = (found : Result (Vec ℕ) Failure) × IsRunFound words found × IsHandedOut found old now needed got

-- an output that the checker accepts: it is well-ordered and faithful, and its places are cells of their own
pub record IsAcceptedOutput (Outs : StoredOutput Global → Type 0) (f : FunctionValue) (env : MachineValue) : Type 0 where
  pub out : OutputValue
  pub output : IsOutput Outs out
  pub in_order : IsInOrder f out
  pub faithful : IsFaithful f env out
  pub cells : AreCells f env out

-- why an input gives no numbers of an output
abbrev pub IsNoStoredOutput : (StoredOutput Global → Type 0) → Failure → Type 0
IsNoStoredOutput Outs Unreadable = (o : StoredOutput Global) → Outs o → ⊥
IsNoStoredOutput Outs (BadMachine m) = ⊥
IsNoStoredOutput Outs NoRoom = ⊥
IsNoStoredOutput Outs (Faults v) = ⊥
IsNoStoredOutput Outs NoMemory = Unit {0}
IsNoStoredOutput Outs NotFramed = ⊥
IsNoStoredOutput Outs BadOutput = ⊥
IsNoStoredOutput Outs ReadBeforeWritten = ⊥
IsNoStoredOutput Outs (BadText line column) = ⊥
IsNoStoredOutput Outs (BadFunction fault) = ⊥
IsNoStoredOutput Outs (Refused error) = ⊥

-- why an input gives no output
abbrev pub NamesNoOutput : (StoredOutput Global → Type 0) → Failure → Type 0
NamesNoOutput Outs e = (e ≡ NoMemory)
    ⊎ ((e ≡ Unreadable) × ((o : StoredOutput Global) → Outs o → ⊥))
    ⊎ ((e ≡ BadOutput) × (o : StoredOutput Global) × Outs o × (NamesValues o → ⊥))

-- why an output isn't accepted
abbrev pub IsCheckFailure : (StoredOutput Global → Type 0) → FunctionValue → MachineValue → Failure → Type 0
IsCheckFailure Outs f env Unreadable = (o : StoredOutput Global) → Outs o → ⊥
IsCheckFailure Outs f env (BadMachine m) = ⊥
IsCheckFailure Outs f env NoRoom = ⊥
IsCheckFailure Outs f env (Faults v) = (out : OutputValue) × IsOutput Outs out
    × (IsInOrder f out × IsFaithful f env out × AreCells f env out → ⊥) × AreFaultsOf f env out v.items
IsCheckFailure Outs f env NoMemory = Unit {0}
IsCheckFailure Outs f env NotFramed = IsFramed f → ⊥
IsCheckFailure Outs f env BadOutput = (o : StoredOutput Global) × Outs o × (NamesValues o → ⊥)
IsCheckFailure Outs f env ReadBeforeWritten = ⊥
IsCheckFailure Outs f env (BadText line column) = ⊥
IsCheckFailure Outs f env (BadFunction fault) = ⊥
IsCheckFailure Outs f env (Refused error) = ⊥

-- an output that is accepted takes no words
abbrev pub IsJudgeFound : List ℕ → (StoredOutput Global → Type 0) → Result (Vec ℕ) Failure → Type 0
IsJudgeFound words Outs found = ResultsIn (AreWordsOf words) (AreUnreadWords words) (λ f env ws. (ws ≡ []) × IsAcceptedOutput Outs f env)
    (IsCheckFailure Outs) found

abbrev pub IsJudgeOutcome : List ℕ → (StoredOutput Global → Type 0) → List ℕ → List ℕ → ℕ → ℕ → Type 0
IsJudgeOutcome words Outs old now needed got = (found : Result (Vec ℕ) Failure) × IsJudgeFound words Outs found × IsHandedOut found old now needed got

-- the words lay out no function, or its output isn't accepted
abbrev pub IsNotAccepted : List ℕ → List ℕ → Failure → Type 0
IsNotAccepted words output e = AreUnreadWords words e
    ⊎ ((f : FunctionValue) × (env : MachineValue) × AreWordsOf words f env × IsCheckFailure (AreOutputWords output) f env e)

abbrev pub IsCheckOutcome : List ℕ → List ℕ → ℕ → Type 0
IsCheckOutcome words output status =
    ((status ≡ 0) × (f : FunctionValue) × (env : MachineValue) × AreWordsOf words f env × IsAcceptedOutput (AreOutputWords output) f env)
    ⊎ ((e : Failure) × (status ≡ failure_number e) × IsNotAccepted words output e)
