use Rattle.std.proofs.Common.{take}
use Rattle.std.specs.Prelude.{All}
use Rattle.regalloc2_names.specs.Packing.{IsRegisterIndex}
use Rattle.regalloc2_serialize.proofs.validate.are_lists_of_registers.Given as goal

abbrev pub invariant-loop-list : goal.invariant-loop-list
invariant-loop-list g l = All (λ v. All IsRegisterIndex v.items) (take l.list-index l.lists)
