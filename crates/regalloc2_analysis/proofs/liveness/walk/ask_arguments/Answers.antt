use Rattle.std.proofs.Common.{◌+◌, [], take, refl, List, length, ◌≤◌, subst, arith}
use Rattle.std.proofs.lemmas.List.{take_all}
use Rattle.std.specs.Prelude.{◌&&◌, not}
use Rattle.regalloc2_names.specs.Register.{VirtualRegister, is_vreg}
use Rattle.regalloc2_semantics.specs.Sound.{names}
use Rattle.regalloc2_analysis.specs.Liveness.BlockVRegPairs.{Grows, holds}
use Rattle.regalloc2_analysis.proofs.LivenessLemmas.PairLists.{grows_more, grows_none}
use Rattle.regalloc2_analysis.proofs.LivenessLemmas.NamesAndDefinitions.{names_asked, names_nothing}
use Rattle.regalloc2_analysis.proofs.liveness.walk.ask_arguments.Goals as goal

pub loop-argument-init : goal.loop-argument-init
loop-argument-init g c = grows_none c.args.block (λ v. names v [] && not (holds c.args.written.now (c.args.block, v))) c.args.needs.now
    (λ v. rw (names_nothing v) refl)

pub loop-argument-preserved : goal.loop-argument-preserved
loop-argument-preserved g c =
    grows_more c.args.block (λ v. names v (take c.loop-argument.argument-index c.args.arguments.now) && not (holds c.args.written.now (c.args.block, v)))
    (λ v. is_vreg c.argument-item.result v && not (holds c.args.written.now (c.args.block, v)))
    (λ v. names v (take (c.loop-argument.argument-index + 1) c.args.arguments.now) && not (holds c.args.written.now (c.args.block, v)))
    c.args.needs.now c.loop-argument.needs c.ask.new.self c.loop-argument.invariant c.in_ok-ask.ensures.grows
    (names_asked c.args.arguments.now c.loop-argument.argument-index c.argument-item.result c.args.written.now c.args.block c.loop-argument-test.true
    c.argument-item.is)

pub returns : goal.returns
returns g c =
    let all : length c.args.arguments.now ≤ c.loop-argument.argument-index = omega arith in
    subst (λ (xs : List VirtualRegister). Grows c.args.block (λ v. names v xs && not (holds c.args.written.now (c.args.block, v))) c.args.needs.now
    c.loop-argument.needs) (take_all c.loop-argument.argument-index c.args.arguments.now all) c.loop-argument.invariant
