-- What an opcode says of an instruction.
use Rattle.std.specs.Prelude.{Bool, true, false}
use Rattle.regalloc2_serialize.specs.declared.data.InstOpcode.{InstOpcode}
use Rattle.regalloc2_serialize.specs.declared.data.InstOpcode.TheVariants.{Op, Ret, Branch}

abbrev pub is_branch : InstOpcode → Bool
is_branch Op = false
is_branch Ret = false
is_branch Branch = true

abbrev pub is_ret : InstOpcode → Bool
is_ret Op = false
is_ret Ret = true
is_ret Branch = false
