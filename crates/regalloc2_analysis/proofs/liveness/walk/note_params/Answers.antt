use Rattle.std.proofs.Common.{◌+◌, [], take, List, length, ◌≤◌, subst, arith}
use Rattle.std.proofs.lemmas.List.{take_all}
use Rattle.regalloc2_names.specs.Register.{VirtualRegister, is_vreg}
use Rattle.regalloc2_semantics.specs.Sound.{names}
use Rattle.regalloc2_analysis.specs.Liveness.BlockVRegPairs.{Gains, holds}
use Rattle.regalloc2_analysis.proofs.LivenessLemmas.PairLists.{gains_more, gains_none}
use Rattle.regalloc2_analysis.proofs.LivenessLemmas.NamesAndDefinitions.{names_more, names_nothing}
use Rattle.regalloc2_analysis.proofs.liveness.walk.note_params.Goals as goal

pub loop-param-init : goal.loop-param-init
loop-param-init g c = gains_none c.args.block (λ v. names v []) (holds c.args.noted.now) names_nothing

pub loop-param-preserved : goal.loop-param-preserved
loop-param-preserved g c =
    gains_more c.args.block (λ v. names v (take c.loop-param.param-index c.args.params.now)) (is_vreg c.param-item.result)
    (λ v. names v (take (c.loop-param.param-index + 1) c.args.params.now))
    (holds c.args.noted.now) (holds c.loop-param.noted) (holds c.add.new.self) c.loop-param.invariant c.in_ok-add.ensures.ok
    (names_more c.args.params.now c.loop-param.param-index c.param-item.result c.loop-param-test.true c.param-item.is)

pub returns : goal.returns
returns g c =
    let all : length c.args.params.now ≤ c.loop-param.param-index = omega arith in
    subst (λ (xs : List VirtualRegister). Gains c.args.block (λ v. names v xs) (holds c.args.noted.now) (holds c.loop-param.noted))
    (take_all c.loop-param.param-index c.args.params.now all) c.loop-param.invariant
