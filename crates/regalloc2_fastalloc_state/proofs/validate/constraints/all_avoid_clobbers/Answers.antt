use Rattle.std.proofs.Common.{ℕ, List, below_more, sym, ◌∙◌}
use Rattle.regalloc2_names.specs.Operand.{OperandValue}
use Rattle.regalloc2_function.specs.WellFormed.{AvoidsClobbers, IsReused}
use Rattle.regalloc2_function.specs.FunctionValue.{op_at}
use Rattle.regalloc2_fastalloc_state.proofs.ValidateLemmas.ConstraintTests.{clear_read}
use Rattle.regalloc2_fastalloc_state.proofs.ValidateLemmas.OperandReads.{read_operand}
use Rattle.std.proofs.lemmas.Bool.{false≢true}
use Rattle.regalloc2_fastalloc_state.proofs.validate.constraints.all_avoid_clobbers.Goals as goal

pub returns-then-not-avoids_clobbers : goal.returns-then-not-avoids_clobbers
returns-then-not-avoids_clobbers c =
    let ops : List OperandValue = c.args.operands.now in
    let k : ℕ = c.loop-k.k in
    let is = read_operand ops k c.index-operands-k.result c.loop-k-test.true c.index-operands-k.is in (
      λ h. absurd (false≢true h),
      λ all. absurd (false≢true (sym c.if-not-avoids_clobbers.true ∙ c.avoids_clobbers.ensures.1
          ((clear_read c.args.clobbers ops k c.index-operands-k.result c.named_by_reuses-named.result c.is_named-is_reused.result is
          c.is_named-is_reused.ensures (c.named_by_reuses-named.ensures k)).1 (all k c.loop-k-test.true)))),
    )

pub loop-k-preserved : goal.loop-k-preserved
loop-k-preserved c =
    let ops : List OperandValue = c.args.operands.now in
    let k : ℕ = c.loop-k.k in
    let is = read_operand ops k c.index-operands-k.result c.loop-k-test.true c.index-operands-k.is in
    record {
      so_far = below_more (λ n. AvoidsClobbers c.args.clobbers (op_at ops n) (IsReused ops n)) _ c.loop-k.invariant.so_far
          ((clear_read c.args.clobbers ops k c.index-operands-k.result c.named_by_reuses-named.result c.is_named-is_reused.result is
          c.is_named-is_reused.ensures (c.named_by_reuses-named.ensures k)).0
          (c.avoids_clobbers.ensures.0 c.if-not-avoids_clobbers.false));
    }
