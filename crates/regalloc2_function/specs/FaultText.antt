-- The texts of errors in stored numbers.
use Rattle.std.specs.Prelude.{ℕ, codes, List}
use Rattle.regalloc2_function.specs.declared.serialize.StoredFault.{StoredFault}
use Rattle.regalloc2_function.specs.declared.serialize.StoredFault.TheVariants as fault

abbrev pub fault_reason : StoredFault → List ℕ
fault_reason fault.Lengths = codes "lists by block or by class have different lengths"
fault_reason fault.Index = codes "a block, a range or a label is out of range"
fault_reason fault.Bits = codes "a word names nothing"
fault_reason fault.Limit = codes "a limit is passed"
fault_reason fault.Memory = codes "out of memory"
fault_reason fault.Shape = codes "a value has another shape"
