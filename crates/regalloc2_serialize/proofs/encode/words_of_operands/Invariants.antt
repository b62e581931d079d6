use Rattle.std.proofs.Common.{◌≡◌, map, take}
use Rattle.std.specs.Prelude.{All}
use Rattle.regalloc2_names.specs.Packing.{IsOperandBits, operand_of_bits}
use Rattle.regalloc2_serialize.proofs.encode.words_of_operands.Given as goal

abbrev pub invariant-loop-operand : goal.invariant-loop-operand
invariant-loop-operand g l = record {
  same : map operand_of_bits l.words.items ≡ take l.operand-index l.operands;
  names : All IsOperandBits l.words.items;
}
