use Rattle.std.proofs.Common.{◌≡◌, ◌++◌, map}
use Rattle.std.specs.Prelude.{All}
use Rattle.regalloc2_names.specs.Packing.{IsRegisterIndex, register_of_bits}
use Rattle.regalloc2_serialize.proofs.encode.indexes_of.Given as goal

abbrev pub invariant-loop-reg : goal.invariant-loop-reg
invariant-loop-reg g l = record {
  same : map register_of_bits l.indexes.items ++ l.reg-iterator ≡ l.initial.reg-iterator;
  names : All IsRegisterIndex l.indexes.items;
}
