use Rattle.std.proofs.Common.{◌≡◌, map, take}
use Rattle.std.specs.Prelude.{slice_index}
use Rattle.regalloc2_serialize.proofs.rewrite.order.renamed_succs.Given as goal

abbrev pub invariant-loop-succ : goal.invariant-loop-succ
invariant-loop-succ g l = l.named.items ≡ map (λ s. slice_index l.numbers s) (take l.succ-index l.succs)
