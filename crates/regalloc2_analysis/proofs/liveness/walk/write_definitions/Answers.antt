use Rattle.std.proofs.Common.{◌∙◌, ◌+◌, [], sym, take, List, length, ◌≤◌, subst, arith}
use Rattle.std.proofs.lemmas.List.{take_all}
use Rattle.regalloc2_names.specs.Register.{is_vreg}
use Rattle.regalloc2_carry.specs.Listing.{defines}
use Rattle.regalloc2_names.specs.Operand.{OperandValue}
use Rattle.regalloc2_analysis.specs.Liveness.BlockVRegPairs.{Gains, holds}
use Rattle.regalloc2_analysis.proofs.LivenessLemmas.PairLists.{gains_more, gains_none, gains_same}
use Rattle.regalloc2_analysis.proofs.LivenessLemmas.NamesAndDefinitions.{defines_no, defines_nothing, defines_yes}
use Rattle.regalloc2_analysis.proofs.liveness.walk.write_definitions.Goals as goal
use Rattle.regalloc2_analysis.proofs.liveness.walk.write_definitions.Goals.{then-is_def+in_ok-add, else-is_def}

pub loop-operand-init : goal.loop-operand-init
loop-operand-init g c = gains_none c.args.block (λ v. defines v []) (holds c.args.written.now) defines_nothing

pub loop-operand-preserved : goal.loop-operand-preserved
loop-operand-preserved g c = elim c.if-is_def.branch [
  | then-is_def+in_ok-add w ↦ rw w.written-is
      (gains_more c.args.block (λ v. defines v (take c.loop-operand.operand-index c.args.operands.now)) (is_vreg c.operand-item.result.vreg)
      (λ v. defines v (take (c.loop-operand.operand-index + 1) c.args.operands.now))
      (holds c.args.written.now) (holds c.loop-operand.written) (holds w.add.new.self) c.loop-operand.invariant (rw w.vreg.ensures at w.in_ok-add.ensures.ok)
      (defines_yes c.args.operands.now c.loop-operand.operand-index c.operand-item.result c.loop-operand-test.true c.operand-item.is
      (sym c.is_def.ensures ∙ w.if-is_def.true)))
  | else-is_def w ↦ rw w.written-is
      (gains_same c.args.block (λ v. defines v (take c.loop-operand.operand-index c.args.operands.now))
      (λ v. defines v (take (c.loop-operand.operand-index + 1) c.args.operands.now))
      (holds c.args.written.now) (holds c.loop-operand.written) c.loop-operand.invariant
      (defines_no c.args.operands.now c.loop-operand.operand-index c.operand-item.result c.loop-operand-test.true c.operand-item.is
      (sym c.is_def.ensures ∙ w.if-is_def.false)))
]

pub returns : goal.returns
returns g c =
    let all : length c.args.operands.now ≤ c.loop-operand.operand-index = omega arith in
    subst (λ (xs : List OperandValue). Gains c.args.block (λ v. defines v xs) (holds c.args.written.now) (holds c.loop-operand.written))
    (take_all c.loop-operand.operand-index c.args.operands.now all) c.loop-operand.invariant
