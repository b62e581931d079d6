-- The numbers of the errors in stored numbers, as the programs print them, and their texts.
use Rattle.std.specs.Prelude.{ℕ, codes, List, ◌++◌}
use Rattle.std.specs.Fmt.{decimal}
use Rattle.regalloc2_function.specs.declared.serialize.StoredFault.{StoredFault}
use Rattle.regalloc2_function.specs.declared.serialize.StoredFault.TheVariants.{Lengths, Index, Bits, Limit, Memory, Shape}
use Rattle.regalloc2_text.specs.declared.explain.stored_cause.StoredCause.{StoredCause}
use Rattle.regalloc2_text.specs.Explain.FaultText.{stored_cause_text}

abbrev pub fault_number : StoredFault → ℕ
fault_number Lengths = 1
fault_number Index = 2
fault_number Bits = 3
fault_number Limit = 4
fault_number Memory = 5
fault_number Shape = 6

-- the number of an error and its cause, as 2: the entry is block1, and the function has 1 block
abbrev pub stored_fault_text : StoredFault → StoredCause → List ℕ
stored_fault_text e c = decimal (fault_number e) ++ codes ": " ++ stored_cause_text c
