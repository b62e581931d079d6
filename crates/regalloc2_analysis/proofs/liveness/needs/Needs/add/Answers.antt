use Rattle.std.proofs.Common.{◌∙◌, sym, ap, Bool, List, nat_eq}
use Rattle.std.specs.Prelude.{◌&&◌, ◌||◌}
use Rattle.regalloc2_names.specs.Register.{is_vreg}
use Rattle.regalloc2_analysis.specs.Liveness.BlockVRegPairs.{Pair, lists}
use Rattle.regalloc2_analysis.proofs.LivenessLemmas.PairLists.{gains_last}
use Rattle.regalloc2_analysis.proofs.liveness.needs.Needs.add.Goals as goal

pub invariant_of-self-in_default : goal.invariant_of-self-in_default
invariant_of-self-in_default g c p =
    c.in_default.ensures.ok p ∙ ap (λ (x : Bool). x || (nat_eq c.args.block p.0 && is_vreg c.args.vreg p.1)) (c.self.invariant p)
    ∙ sym (gains_last c.args.block c.args.vreg c.self.inside.found.items p) ∙ ap (λ (xs : List Pair). lists xs p) (sym c.in_ok-push.ensures.items)
