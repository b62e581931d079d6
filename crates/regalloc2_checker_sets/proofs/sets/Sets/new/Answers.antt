use Rattle.std.proofs.Common.{false, refl}
use Rattle.regalloc2_checker_sets.proofs.AllSets.{empty-is}
use Rattle.regalloc2_checker_sets.proofs.sets.Sets.new.Goals as goal

pub returns : goal.returns
returns g c = empty-is _ _ (λ y. false) refl (λ y. refl)
