use Rattle.std.proofs.Common.{◌≡◌, map, take}
use Rattle.regalloc2_names.specs.Packing.{vreg_of_bits}
use Rattle.regalloc2_serialize.proofs.decode.lists_of_vregs_from.Given as goal

abbrev pub invariant-loop-list : goal.invariant-loop-list
invariant-loop-list g l = map (λ v. v.items) l.vregs.items ≡ map (λ v. map vreg_of_bits v.items) (take l.list-index l.lists)
