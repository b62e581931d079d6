use Rattle.std.proofs.Common.{◌≡◌, ◌∙◌, sym, ap, arith, get_or, length, ◌≤◌}
use Rattle.regalloc2_function.specs.Numbers.{has_number}
use Rattle.regalloc2_analysis.specs.Liveness.BlockVRegPairs.{BlockSets, holds}
use Rattle.regalloc2_analysis.proofs.LivenessLemmas.PairSets.{holds_here, holds_past}
use Rattle.regalloc2_analysis.proofs.liveness.sets.BlockVRegs.has.Goals as goal

pub returns-then-index-len : goal.returns-then-index-len
returns-then-index-len g c =
    let past : length c.self.inside.sets.items ≤ c.args.block = omega arith in
    sym (holds_past c.self.inside.sets.items c.args.block c.args.vreg past) ∙ ap (λ (ss : BlockSets). holds ss (c.args.block, c.args.vreg)) c.self.view_is

pub returns : goal.returns
returns g c =
    let sets : BlockSets = c.self.inside.sets.items in
    let at : c.index-3.result.now ≡ get_or sets c.args.block c.index-3.result.now = rw c.index-2.ensures at c.index-3.ensures in
    c.get.ensures ∙ ap (has_number c.index-3.result.now) c.bits.ensures.bits ∙ holds_here sets c.args.block c.index-3.result.now c.args.vreg (omega arith) at
    ∙ ap (λ (ss : BlockSets). holds ss (c.args.block, c.args.vreg)) c.self.view_is
