-- The program's input: a text of stored numbers, and the function, the machine and the output that they name.
use Rattle.std.specs.Prelude.{ℕ, ◌≡◌, List, Option, Some, None, IfSome}
use Rattle.serde_json.specs.Data.{Data}
use Rattle.serde_json.specs.Find.{at}
use Rattle.serde_json.specs.Read.{read}
use Rattle.regalloc2_function.specs.FunctionValue.{FunctionValue}
use Rattle.regalloc2_function.specs.Machine.{MachineValue}
use Rattle.regalloc2_function.specs.Fitting.{MachineFits}
use Rattle.regalloc2_function.specs.OutputValue.{OutputValue}
use Rattle.regalloc2_function.specs.Stored.{NamesValues, output_of_stored}
use Rattle.regalloc2_function.specs.WellFormed.{IsFramed}
use Rattle.regalloc2_function.specs.declared.serialize.StoredFault.{StoredFault}
use Rattle.regalloc2_function.specs.declared.serialize.StoredFault.TheVariants.{Lengths, Index, Bits, Limit, Memory, Shape}
use Rattle.regalloc2_function.specs.declared.serialize.StoredOutput.{StoredOutput}
use Rattle.regalloc2_serialize.specs.Validity.{IsSoundStored, IsFaultOf}
use Rattle.regalloc2_serialize.specs.Decoded.{NamesFunction, NamesMachine}
use Rattle.regalloc2_serialize.specs.JsonShape.{IsFunctionAt, output, output_data}
use Rattle.regalloc2_serialize.specs.declared.data.StoredFunction.{StoredFunction}
use Rattle.regalloc2_tool.specs.declared.ra2.reading.InputError.{InputError}
use Rattle.regalloc2_tool.specs.declared.ra2.reading.InputError.TheVariants.{Unreadable, BadFunction, BadMachine, BadOutput, NotFramed}

-- the bytes, if they are known, are the text of a JSON value
abbrev pub IsTextOfValue : Option (List ℕ) → Data → Type 0
IsTextOfValue bytes d = IfSome bytes (λ text. read text ≡ Some d)

-- the bytes, if they are known, are a JSON text of the stored numbers
abbrev pub IsTextOf : {A : Type 0} → Option (List ℕ) → StoredFunction A → Type 0
IsTextOf bytes s = IfSome bytes (λ text. (d : Data) × (read text ≡ Some d) × IsFunctionAt d s)

-- a value is an array of exactly a function's numbers and an output's
pub record IsPairAt {A : Type 0} (d : Data) (s : StoredFunction A) (o : StoredOutput A) : Type 0 where
  pub first : Data
  pub second : Data
  pub at_first : at 0 d ≡ Some first
  pub at_second : at 1 d ≡ Some second
  pub two : at 2 d ≡ None
  pub function : IsFunctionAt first s
  pub output : output second ≡ Some (output_data o)

-- why numbers name no output
abbrev pub IsOutputFault : {A : Type 0} → StoredOutput A → StoredFault → Type 0
IsOutputFault o Bits = NamesValues o → ⊥
IsOutputFault o Memory = NamesValues o
IsOutputFault o Lengths = ⊥
IsOutputFault o Index = ⊥
IsOutputFault o Limit = ⊥
IsOutputFault o Shape = ⊥

-- why the numbers name no output of a function, or why the output can't be checked
abbrev pub IsOutputRefusal : {A : Type 0} → FunctionValue → StoredOutput A → InputError → Type 0
IsOutputRefusal f o Unreadable = ⊥
IsOutputRefusal f o (BadFunction fault) = ⊥
IsOutputRefusal f o BadMachine = ⊥
IsOutputRefusal f o (BadOutput fault) = IsOutputFault o fault
IsOutputRefusal f o NotFramed = NamesValues o × (IsFramed f → ⊥)

-- the bytes are a text of sound numbers, in memory of an allocator A, which name the function `f` and the machine `env`
pub record TextNamesFunction (A : Type 0) (bytes : Option (List ℕ)) (f : FunctionValue) (env : MachineValue) : Type 0 where
  pub stored : StoredFunction A
  pub text : IsTextOf bytes stored
  pub sound : IsSoundStored stored
  pub function : NamesFunction stored f
  pub machine : NamesMachine stored.machine_env env

-- the bytes name a function and a machine that fits it
pub record TextNamesFitting (A : Type 0) (bytes : Option (List ℕ)) (f : FunctionValue) (env : MachineValue) : Type 0 where
  pub named : TextNamesFunction A bytes f env
  pub fits : MachineFits f env

-- why the bytes name no function with a machine that fits it; any bytes may be unreadable, because a read may fail or
-- memory may run out
abbrev pub IsInputFault : (A : Type 0) → Option (List ℕ) → InputError → Type 0
IsInputFault A bytes Unreadable = Unit {0}
IsInputFault A bytes (BadFunction fault) = (s : StoredFunction A) × IsTextOf bytes s × IsFaultOf s fault
IsInputFault A bytes BadMachine = (f : FunctionValue) × (env : MachineValue) × TextNamesFunction A bytes f env × (MachineFits f env → ⊥)
IsInputFault A bytes (BadOutput fault) = ⊥
IsInputFault A bytes NotFramed = ⊥

-- the bytes, if they are known, are a JSON text of an array of exactly the stored numbers of a function and of an
-- output
abbrev pub IsTextOfPair : {A : Type 0} → Option (List ℕ) → StoredFunction A → StoredOutput A → Type 0
IsTextOfPair bytes s o = IfSome bytes (λ text. (d : Data) × (read text ≡ Some d) × IsPairAt d s o)

-- the bytes are a text of sound numbers, which name the function `f`, the machine `env` and the output `out`
pub record TextNamesOutput (A : Type 0) (bytes : Option (List ℕ)) (f : FunctionValue) (env : MachineValue) (out : OutputValue) : Type 0 where
  pub stored : StoredFunction A
  pub stored_output : StoredOutput A
  pub text : IsTextOfPair bytes stored stored_output
  pub sound : IsSoundStored stored
  pub function : NamesFunction stored f
  pub machine : NamesMachine stored.machine_env env
  pub names : NamesValues stored_output
  pub output : out ≡ output_of_stored stored_output

-- the bytes name an output of a structurally valid function (`IsFramed`), which can therefore be checked
pub record AreGiven (A : Type 0) (bytes : Option (List ℕ)) (f : FunctionValue) (env : MachineValue) (out : OutputValue) : Type 0 where
  pub named : TextNamesOutput A bytes f env out
  pub framed : IsFramed f

-- why the bytes name no output of a structurally valid function; any bytes may be unreadable, because a read may fail
-- or memory may run out
abbrev pub IsPairFault : (A : Type 0) → Option (List ℕ) → InputError → Type 0
IsPairFault A bytes Unreadable = Unit {0}
IsPairFault A bytes (BadFunction fault) = (s : StoredFunction A) × (o : StoredOutput A) × IsTextOfPair bytes s o × IsFaultOf s fault
IsPairFault A bytes (BadOutput fault) = (s : StoredFunction A) × (o : StoredOutput A) × IsTextOfPair bytes s o × IsSoundStored s × IsOutputFault o fault
IsPairFault A bytes NotFramed = (f : FunctionValue) × (env : MachineValue) × (out : OutputValue) × TextNamesOutput A bytes f env out × (IsFramed f → ⊥)
IsPairFault A bytes BadMachine = ⊥
