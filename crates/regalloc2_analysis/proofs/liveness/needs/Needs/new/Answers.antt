use Rattle.std.proofs.Common.{◌∙◌, sym, ap, List}
use Rattle.regalloc2_analysis.specs.Liveness.BlockVRegPairs.{BlockSets, Pair, holds, lists}
use Rattle.regalloc2_analysis.proofs.LivenessLemmas.PairLists.{lists_empty}
use Rattle.regalloc2_analysis.proofs.LivenessLemmas.PairSets.{holds_nothing}
use Rattle.regalloc2_analysis.proofs.liveness.needs.Needs.new.Goals as goal

pub invariant_of-result : goal.invariant_of-result
invariant_of-result g c p =
    ap (λ (ss : BlockSets). holds ss p) c.new-2.ensures ∙ holds_nothing p ∙ sym (ap (λ (ps : List Pair). lists ps p) c.new.ensures.items ∙ lists_empty p)
