-- The version of the library, the numbers of failures, as the header lists them, and which failure an error is.
use Rattle.std.specs.Prelude.{ℕ, ◌+◌, ◌*◌, ◌^◌}
use Rattle.std.specs.declared.alloc.Global.{Global}
use Rattle.regalloc2.specs.declared.tested.AllocateError.{AllocateError}
use Rattle.regalloc2.specs.declared.tested.AllocateError.TheVariants.{Misfit as AllocateMisfit, Refused as AllocateRefused, Faults as AllocateFaults, Unjudged}
use Rattle.regalloc2.specs.declared.tested.TestedRunError.{TestedRunError}
use Rattle.regalloc2.specs.declared.tested.TestedRunError.TheVariants.{Misfit, Refused as RunRefused, ReadBeforeWritten as RunReads}
use Rattle.regalloc2_function.specs.declared.serialize.StoredFault.{StoredFault}
use Rattle.regalloc2_function.specs.declared.serialize.StoredFault.TheVariants.{Lengths, Index, Bits, Limit, Memory, Shape}
use Rattle.regalloc2_text.specs.StoredFault.{fault_number}
use Rattle.regalloc2_text.specs.Refusal.{refusal_number}
use Rattle.regalloc2_c.specs.declared.failure.Failure.{Failure}
use Rattle.regalloc2_c.specs.declared.failure.Failure.TheVariants.{Unreadable, BadMachine, NoRoom, Faults, NoMemory, NotFramed, BadOutput}
use Rattle.regalloc2_c.specs.declared.failure.Failure.TheVariants.{ReadBeforeWritten, BadText, BadFunction, Refused}

-- the version of the layouts, 2, and the number of calls, 9
abbrev pub version : ℕ
version = 2 * 2 ^ 16 + 9

abbrev pub failure_number : Failure → ℕ
failure_number Unreadable = 1
failure_number (BadMachine m) = 2
failure_number NoRoom = 3
failure_number (Faults v) = 4
failure_number NoMemory = 5
failure_number NotFramed = 6
failure_number BadOutput = 7
failure_number ReadBeforeWritten = 8
failure_number (BadText line column) = 9
failure_number (BadFunction fault) = 10 + fault_number fault
failure_number (Refused error) = 20 + refusal_number error

-- where an allocation gives none; without the checker it has no faults
abbrev pub allocate_failure : AllocateError Global → Failure
allocate_failure (AllocateMisfit m) = BadMachine m
allocate_failure (AllocateRefused error) = Refused error
allocate_failure (AllocateFaults es) = NoMemory
allocate_failure Unjudged = NoMemory

-- where a tested run gives none
abbrev pub run_failure : TestedRunError → Failure
run_failure (Misfit m) = BadMachine m
run_failure (RunRefused error) = Refused error
run_failure RunReads = ReadBeforeWritten

-- where words are read in columns
abbrev pub columns_failure : StoredFault → Failure
columns_failure Shape = Unreadable
columns_failure Lengths = BadFunction Lengths
columns_failure Index = BadFunction Index
columns_failure Bits = BadFunction Bits
columns_failure Limit = BadFunction Limit
columns_failure Memory = NoMemory

-- where numbers are read
abbrev pub read_failure : StoredFault → Failure
read_failure Shape = Unreadable
read_failure Lengths = NoMemory
read_failure Index = NoMemory
read_failure Bits = NoMemory
read_failure Limit = NoMemory
read_failure Memory = NoMemory

-- where words are listed
abbrev pub write_failure : StoredFault → Failure
write_failure Limit = NoRoom
write_failure Lengths = NoMemory
write_failure Index = NoMemory
write_failure Bits = NoMemory
write_failure Memory = NoMemory
write_failure Shape = NoMemory
