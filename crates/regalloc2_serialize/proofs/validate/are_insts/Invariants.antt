use Rattle.std.proofs.Common.{take}
use Rattle.std.specs.Prelude.{All}
use Rattle.regalloc2_serialize.specs.Validity.{NamesOperands}
use Rattle.regalloc2_serialize.proofs.validate.are_insts.Given as goal

abbrev pub invariant-loop-inst : goal.invariant-loop-inst
invariant-loop-inst g l = All (λ i. NamesOperands i) (take l.inst-index l.insts)
