use Rattle.std.proofs.Common.{rules, tests}
use Rattle.std.proofs.lemmas.Iterator.{cases_from_all, YieldsList-from_slice}
use Rattle.regalloc2_function.specs.Stored.{NamesMove}
use Rattle.regalloc2_function.proofs.Tests.{all_or_not}
use Rattle.regalloc2_function.proofs.serialize.are_moves.Goals as goal

pub returns : goal.returns
returns c = all_or_not NamesMove _ c.args.edits.now (cases_from_all _ _ _ NamesMove (λ e. NamesMove e → ⊥) c.all.ensures.ran
    (YieldsList-from_slice c.args.edits.now c.iter.ensures.rest) (λ x q k. search (rules, tests)) (λ x q k. search (rules, tests)))
