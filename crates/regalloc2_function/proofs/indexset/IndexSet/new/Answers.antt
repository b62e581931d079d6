use Rattle.std.proofs.Common.{inl, refl, ◌/◌, ◌++◌, []}
use Rattle.regalloc2_function.proofs.NumberMaps.{word_of-empty}
use Rattle.regalloc2_function.proofs.NumberSets.{has_none}
use Rattle.regalloc2_function.proofs.indexset.IndexSet.new.Goals as goal

pub invariant_of-result : goal.invariant_of-result
invariant_of-result g c k = inl (rw c.new.ensures (word_of-empty [] k refl))

pub returns : goal.returns
returns g c i = has_none (c.new.result ++ c.new-2.result.entries) i (rw (c.new.ensures, c.new-2.ensures.empty) (word_of-empty [] (i / 64) refl))
