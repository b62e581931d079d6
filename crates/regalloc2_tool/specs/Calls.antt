-- What it says of a stored function and output that a call of `ra2_text` about them is accepted.
-- Read first: `IsAcceptedCall`; then `IsChecked`, an output that the checker accepts, and `IsAllocated`, one that the
-- allocator returns.
use Rattle.std.specs.Prelude.{◌≡◌, true, Option, Some, None}
use Rattle.std.specs.Option.{option_map}
use Rattle.std.specs.declared.alloc.Global.{Global}
use Rattle.regalloc2_function.specs.FunctionValue.{FunctionValue}
use Rattle.regalloc2_function.specs.Machine.{MachineValue}
use Rattle.regalloc2_function.specs.OutputValue.{OutputValue, IsInOrder}
use Rattle.regalloc2_semantics.specs.Faithful.{IsFaithful}
use Rattle.regalloc2_function.specs.Fitting.{MachineFits}
use Rattle.regalloc2_semantics.specs.Runs.{IsDefinitelyAssigned}
use Rattle.regalloc2_function.specs.Stored.{NamesValues, output_of_stored}
use Rattle.regalloc2_function.specs.WellFormed.{IsFramed, IsWellFormed}
use Rattle.regalloc2_function.specs.declared.serialize.StoredOutput.{StoredOutput}
use Rattle.regalloc2_fastalloc.specs.ErrorReason.{PassesAllChecks}
use Rattle.regalloc2_fastalloc.specs.Guarantee.{IsAllocation}
use Rattle.regalloc2_checker.specs.Cells.{AreCells}
use Rattle.regalloc2_serialize.specs.Decoded.{NamesFunction, NamesMachine}
use Rattle.regalloc2_serialize.specs.Validity.{IsSoundStored}
use Rattle.regalloc2_serialize.specs.declared.data.StoredFunction.{StoredFunction}
use Rattle.regalloc2_tool.specs.declared.calls.call.Call.{Call}
use Rattle.regalloc2_tool.specs.declared.calls.call.Call.TheVariants.{Run, Check, Replay, Allocated, Text, Svg, Reads, Stats, StatsJson, Dump, Diff}
use Rattle.regalloc2_tool.specs.declared.calls.call.Given.{Given}

-- the numbers of the output that is given, if there is one
abbrev pub output_given : Given → Option (StoredOutput Global)
output_given given = option_map (λ o. o.now) given.output

-- the function is structurally valid; the output is well-ordered and faithful, and its places are cells
pub record IsChecked (f : FunctionValue) (env : MachineValue) (out : OutputValue) : Type 0 where
  pub framed : IsFramed f
  pub in_order : IsInOrder f out
  pub faithful : IsFaithful f env out
  pub cells : AreCells f env out

-- the numbers of an output are given, they name moves, places and debug locations, and that output is checked
abbrev pub IsGivenChecked : FunctionValue → MachineValue → Option (StoredOutput Global) → Type 0
IsGivenChecked f env None = ⊥
IsGivenChecked f env (Some o) = NamesValues o × IsChecked f env (output_of_stored o)

-- a machine that fits a well-formed function, and an output with all that the allocator guarantees
pub record IsAllocated (f : FunctionValue) (env : MachineValue) (out : OutputValue) : Type 0 where
  pub fitting : MachineFits f env
  pub well_formed : IsWellFormed env f
  pub passes_checks : PassesAllChecks f env true
  pub allocation : IsAllocation f env out

-- what a call that allocates has tested of the allocator's output, and of the one that is given
abbrev pub IsShown : Call → Option (StoredOutput Global) → FunctionValue → MachineValue → OutputValue → Type 0
IsShown Run given f env out = Unit {0}
IsShown Check given f env out = IsChecked f env out
IsShown Replay given f env out = IsChecked f env out
IsShown Allocated given f env out = Unit {0}
IsShown Text given f env out = Unit {0}
IsShown Svg given f env out = Unit {0}
IsShown Reads given f env out = IsChecked f env out
IsShown Stats given f env out = Unit {0}
IsShown StatsJson given f env out = Unit {0}
IsShown Dump given f env out = Unit {0}
IsShown Diff given f env out = IsGivenChecked f env given × IsChecked f env out

-- the allocator returns an output, and the call's tests of it pass
abbrev pub HasShown : Call → Option (StoredOutput Global) → FunctionValue → MachineValue → Type 0
HasShown call given f env = (out : OutputValue) × IsAllocated f env out × IsShown call given f env out

-- the call allocates where no output is given; an output that is given is reported as it is
abbrev pub HasReported : Call → Option (StoredOutput Global) → FunctionValue → MachineValue → Type 0
HasReported call None f env = HasShown call None f env
HasReported call (Some o) f env = Unit {0}

-- what holds of a function and its machine where the call is accepted
abbrev pub IsAccepted : Call → Option (StoredOutput Global) → FunctionValue → MachineValue → Type 0
IsAccepted Run given f env = HasShown Run given f env
IsAccepted Check None f env = HasShown Check None f env
IsAccepted Check (Some o) f env = IsGivenChecked f env (Some o)
IsAccepted Replay given f env = IsGivenChecked f env given
IsAccepted Allocated given f env = HasShown Allocated given f env
IsAccepted Text given f env = Unit {0}
IsAccepted Svg given f env = HasShown Svg given f env
IsAccepted Reads given f env = IsFramed f × IsDefinitelyAssigned f
IsAccepted Stats given f env = HasReported Stats given f env
IsAccepted StatsJson given f env = HasReported StatsJson given f env
IsAccepted Dump given f env = HasReported Dump given f env
IsAccepted Diff given f env = HasShown Diff given f env

-- the numbers pass the tests of stored functions, and name the function and its machine
pub record NamesBoth (s : StoredFunction Global) (f : FunctionValue) (env : MachineValue) : Type 0 where
  pub sound : IsSoundStored s
  pub function : NamesFunction s f
  pub machine : NamesMachine s.machine_env env

-- The numbers that are given name a function and a machine of which this holds. A call of `Text` tests nothing.
abbrev pub IsAcceptedCall : Call → Given → Type 0
IsAcceptedCall call given = (f : FunctionValue) × (env : MachineValue) × NamesBoth given.function.now f env × IsAccepted call (output_given given) f env

-- the numbers that are given name a function and a machine, and they and the other numbers name outputs that are
-- checked
abbrev pub AreAcceptedBoth : Given → Given → Type 0
AreAcceptedBoth given other = (f : FunctionValue) × (env : MachineValue) × NamesBoth given.function.now f env
    × IsGivenChecked f env (output_given given) × IsGivenChecked f env (output_given other)
