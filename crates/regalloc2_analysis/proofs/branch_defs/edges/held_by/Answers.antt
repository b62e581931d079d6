use Rattle.std.proofs.Common.{ℕ, ◌+◌, List, sym, ap, ◌∙◌, subst}
use Rattle.regalloc2_names.specs.Operand.{OperandValue}
use Rattle.regalloc2_analysis.specs.BranchDefs.BranchDefs.{fixed_definition}
use Rattle.regalloc2_analysis.proofs.BranchDefsLemmas.BlockEnds.{read_operand}
use Rattle.regalloc2_analysis.proofs.BranchDefsLemmas.EdgeNotes.{HasHeldAmong, holds_more, holds_same}
use Rattle.regalloc2_analysis.proofs.branch_defs.edges.held_by.Goals as goal
use Rattle.regalloc2_analysis.proofs.branch_defs.edges.held_by.Goals.{in-Some, in_default}

pub loop-k-preserved : goal.loop-k-preserved
loop-k-preserved c =
    let ops : List OperandValue = c.args.operands.now in
    let k : ℕ = c.loop-k.k in
    let is = ap fixed_definition (sym (read_operand ops k c.index-operands-k.result c.loop-k-test.true c.index-operands-k.is))
    ∙ sym c.fixed_definition.ensures in
    elim c.match-fixed_definition.branch [
      | in-Some w ↦ subst (HasHeldAmong ops (k + 1)) (sym w.held-is)
          (holds_more ops k w.in-Some.preg c.loop-k.held w.add.new.self (is ∙ w.in-Some.is) w.add.ensures.members c.loop-k.invariant)
      | in_default w ↦ subst (HasHeldAmong ops (k + 1)) (sym w.held-is) (holds_same ops k c.loop-k.held (is ∙ w.in_default.is) c.loop-k.invariant)
    ]
