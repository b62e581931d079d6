use Rattle.std.specs.Prelude.{refl}
use Rattle.std.proofs.lemmas.List.Elements.{All-nil}
use Rattle.regalloc2_names.specs.Packing.{IsOperand}
use Rattle.regalloc2_names.specs.OperandUnion.{union_bits}
use Rattle.regalloc2_names.proofs.unions.OperandUnion.empty.Goals as goal

pub returns : goal.returns
unfolding union_bits
returns c = record { are_operands = All-nil IsOperand; bits = refl }
