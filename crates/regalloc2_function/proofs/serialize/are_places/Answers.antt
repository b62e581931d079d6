use Rattle.std.proofs.Common.{rules, tests}
use Rattle.std.proofs.lemmas.Iterator.{cases_from_all, YieldsList-from_slice}
use Rattle.regalloc2_names.specs.PlaceBits.{IsPlaceBits}
use Rattle.regalloc2_function.proofs.Tests.{all_or_not}
use Rattle.regalloc2_function.proofs.serialize.are_places.Goals as goal

pub returns : goal.returns
returns c = all_or_not IsPlaceBits _ c.args.words.now (cases_from_all _ _ _ IsPlaceBits (λ e. IsPlaceBits e → ⊥) c.all.ensures.ran
    (YieldsList-from_slice c.args.words.now c.iter.ensures.rest) (λ x q k. search (rules, tests)) (λ x q k. search (rules, tests)))
