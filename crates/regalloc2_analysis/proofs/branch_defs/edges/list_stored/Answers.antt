use Rattle.std.proofs.Common.{ℕ, ◌≡◌, List, length, sym, subst, arith, ◌∙◌}
use Rattle.regalloc2_names.specs.Operand.{OperandValue}
use Rattle.regalloc2_analysis.specs.BranchDefs.Notes.{IsMarkedDefinition, ListsStored}
use Rattle.regalloc2_analysis.proofs.BranchDefsLemmas.BlockEnds.{read_operand}
use Rattle.regalloc2_analysis.proofs.BranchDefsLemmas.EdgeNotes.{lists_more, lists_none, lists_same}
use Rattle.std.proofs.lemmas.Bool.{false≢true}
use Rattle.regalloc2_analysis.proofs.branch_defs.edges.list_stored.Goals as goal
use Rattle.regalloc2_analysis.proofs.branch_defs.edges.list_stored.Goals.{then-is_stored+in_ok-push, else-is_stored}

pub loop-k-preserved : goal.loop-k-preserved
loop-k-preserved g c =
    let ops : List OperandValue = c.args.operands.now in
    let used = c.args.used.now in
    let k : ℕ = c.loop-k.k in
    let is = read_operand ops k c.index-operands-k.result c.loop-k-test.true c.index-operands-k.is in
    elim c.if-is_stored.branch [
      | then-is_stored+in_ok-push w ↦ rw (w.stored-is, w.in_ok-push.ensures.items)
          (lists_more used ops k c.args.stored.now.items c.loop-k.stored.items
          (subst (IsMarkedDefinition used) is (c.is_stored.ensures.0 w.if-is_stored.true)) c.loop-k.invariant)
      | else-is_stored w ↦ rw w.stored-is
          (lists_same used ops k c.args.stored.now.items c.loop-k.stored.items
          (λ m. absurd (false≢true (sym w.if-is_stored.false ∙ c.is_stored.ensures.1 (subst (IsMarkedDefinition used) (sym is) m)))) c.loop-k.invariant)
    ]

pub loop-k-init : goal.loop-k-init
loop-k-init g c = lists_none c.args.used.now c.args.operands.now c.args.stored.now.items

pub returns : goal.returns
returns g c =
    let all : c.loop-k.k ≡ length c.args.operands.now = omega (arith, c.loop-k.auto.k-end, c.loop-k-test.false) in
    subst (λ (n : ℕ). ListsStored c.args.used.now c.args.operands.now n c.args.stored.now.items c.loop-k.stored.items) all c.loop-k.invariant
