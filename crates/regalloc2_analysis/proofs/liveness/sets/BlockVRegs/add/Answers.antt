use Rattle.std.proofs.Common.{◌≡◌, ◌<◌, ◌∙◌, ap, get_or, length}
use Rattle.std.proofs.lemmas.Result.{on_err_weaker, on_ok_weaker}
use Rattle.regalloc2_analysis.specs.Liveness.BlockVRegPairs.{BlockSets, holds}
use Rattle.regalloc2_analysis.proofs.LivenessLemmas.PairSets.{gains_one, holds_same}
use Rattle.regalloc2_analysis.proofs.liveness.sets.BlockVRegs.add.Goals as goal

pub returns-clause-ok : goal.returns-clause-ok
returns-clause-ok g c =
    let sets : BlockSets = c.self.inside.sets.items in
    let less : c.args.block < length sets = rw c.self.view_is c.in_ok-reach.ensures.reached in
    let at : c.index_mut.result.now ≡ get_or sets c.args.block c.index_mut.result.now = rw c.index.ensures at c.index_mut.ensures.value in
    rw c.index.ensures (on_ok_weaker c.set.result
    (λ more. gains_one c.args.self.now sets c.args.block c.index_mut.result.now c.set.new.self c.args.vreg less at (rw c.bits.ensures.bits at more)
    (λ p. ap (λ (ss : BlockSets). holds ss p) c.self.view_is ∙ c.reach.ensures.same p))
    c.set.ensures.ok)

pub returns-clause-err : goal.returns-clause-err
returns-clause-err g c =
    let sets : BlockSets = c.self.inside.sets.items in
    let less : c.args.block < length sets = rw c.self.view_is c.in_ok-reach.ensures.reached in
    let at : c.index_mut.result.now ≡ get_or sets c.args.block c.index_mut.result.now = rw c.index.ensures at c.index_mut.ensures.value in
    rw c.index.ensures (on_err_weaker c.set.result
    (λ same. holds_same c.args.self.now sets c.args.block c.index_mut.result.now c.set.new.self less at same
    (λ p. ap (λ (ss : BlockSets). holds ss p) c.self.view_is ∙ c.reach.ensures.same p))
    c.set.ensures.err)
