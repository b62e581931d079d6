use Rattle.std.proofs.Common.{◌∙◌, ◌+◌, [], sym, take, List, length, ◌≤◌, subst, arith}
use Rattle.std.proofs.lemmas.List.{take_all}
use Rattle.std.specs.Prelude.{◌&&◌, not}
use Rattle.regalloc2_names.specs.Register.{is_vreg}
use Rattle.regalloc2_names.specs.Operand.{OperandValue}
use Rattle.regalloc2_analysis.specs.Liveness.BlockVRegPairs.{Grows, holds}
use Rattle.regalloc2_analysis.specs.Liveness.BlockWalk.{reads}
use Rattle.regalloc2_analysis.proofs.LivenessLemmas.PairLists.{grows_more, grows_none, grows_same}
use Rattle.regalloc2_analysis.proofs.LivenessLemmas.WalkSteps.{reads_no, reads_none, reads_yes}
use Rattle.regalloc2_analysis.proofs.liveness.walk.ask_reads.Goals as goal
use Rattle.regalloc2_analysis.proofs.liveness.walk.ask_reads.Goals.{then-reads_at+in_ok-ask, else-reads_at}

pub loop-operand-init : goal.loop-operand-init
loop-operand-init g c = grows_none c.args.block (λ v. reads c.args.pos v [] && not (holds c.args.written.now (c.args.block, v))) c.args.needs.now
    (λ v. reads_none c.args.pos c.args.written.now c.args.block v)

pub loop-operand-preserved : goal.loop-operand-preserved
loop-operand-preserved g c = elim c.if-reads_at.branch [
  | then-reads_at+in_ok-ask w ↦ rw w.needs-is
      (grows_more c.args.block (λ v. reads c.args.pos v (take c.loop-operand.operand-index c.args.operands.now)
      && not (holds c.args.written.now (c.args.block, v))) (λ v. is_vreg c.operand-item.result.vreg v && not (holds c.args.written.now (c.args.block, v)))
      (λ v. reads c.args.pos v (take (c.loop-operand.operand-index + 1) c.args.operands.now) && not (holds c.args.written.now (c.args.block, v)))
      c.args.needs.now c.loop-operand.needs w.ask.new.self c.loop-operand.invariant (rw w.vreg.ensures at w.in_ok-ask.ensures.grows)
      (reads_yes c.args.pos c.args.operands.now c.loop-operand.operand-index c.operand-item.result c.args.written.now c.args.block c.loop-operand-test.true
      c.operand-item.is (sym c.reads_at.ensures ∙ w.if-reads_at.true)))
  | else-reads_at w ↦ rw w.needs-is
      (grows_same c.args.block (λ v. reads c.args.pos v (take c.loop-operand.operand-index c.args.operands.now)
      && not (holds c.args.written.now (c.args.block, v)))
      (λ v. reads c.args.pos v (take (c.loop-operand.operand-index + 1) c.args.operands.now) && not (holds c.args.written.now (c.args.block, v)))
      c.args.needs.now c.loop-operand.needs c.loop-operand.invariant
      (reads_no c.args.pos c.args.operands.now c.loop-operand.operand-index c.operand-item.result c.args.written.now c.args.block c.loop-operand-test.true
      c.operand-item.is (sym c.reads_at.ensures ∙ w.if-reads_at.false)))
]

pub returns : goal.returns
returns g c =
    let all : length c.args.operands.now ≤ c.loop-operand.operand-index = omega arith in
    subst (λ (xs : List OperandValue). Grows c.args.block (λ v. reads c.args.pos v xs && not (holds c.args.written.now (c.args.block, v))) c.args.needs.now
    c.loop-operand.needs) (take_all c.loop-operand.operand-index c.args.operands.now all) c.loop-operand.invariant
