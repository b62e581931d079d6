use Rattle.std.proofs.Common.{List, refl, sym, subst, arith, below_more, ◌∙◌}
use Rattle.std.proofs.lemmas.List.{get_or_default}
use Rattle.regalloc2_names.specs.Operand.{OperandValue}
use Rattle.regalloc2_function.specs.FunctionValue.{no_operand, op_at}
use Rattle.regalloc2_fastalloc_state.specs.Validate.Constraints.{IsUnlimited}
use Rattle.regalloc2_fastalloc_state.specs.Validate.NoLimits.{IsTakenOperand}
use Rattle.regalloc2_fastalloc_state.proofs.ValidateLemmas.OperandReads.{read_operand}
use Rattle.std.proofs.lemmas.Bool.{false≢true}
use Rattle.regalloc2_fastalloc_state.proofs.validate.constraints.all_unlimited.Goals as goal

pub returns-then-not-is_unlimited-clause-unlimited : goal.returns-then-not-is_unlimited-clause-unlimited
returns-then-not-is_unlimited-clause-unlimited c =
    let ops : List OperandValue = c.args.operands.now in
    let is = read_operand ops c.loop-k.k c.index-operands-k.result c.loop-k-test.true c.index-operands-k.is in
    (λ h. absurd (false≢true h), λ all. absurd (false≢true (sym c.if-not-is_unlimited.true ∙ c.is_unlimited.ensures.unlimited.1 (subst IsUnlimited (sym is) (all c.loop-k.k c.loop-k-test.true)))))

pub loop-k-preserved : goal.loop-k-preserved
loop-k-preserved c =
    let ops : List OperandValue = c.args.operands.now in
    let is = read_operand ops c.loop-k.k c.index-operands-k.result c.loop-k-test.true c.index-operands-k.is in
    record {
      so_far = below_more (λ n. IsTakenOperand (op_at ops n)) _ c.loop-k.invariant.so_far
          (subst IsTakenOperand is (record {
            of_class = c.is_unlimited.ensures.of_class;
            unlimited = c.is_unlimited.ensures.unlimited.0 c.if-not-is_unlimited.false;
          }));
    }

pub returns-clause-unlimited : goal.returns-clause-unlimited
returns-clause-unlimited c = (λ t. λ k lt. (c.loop-k.invariant.so_far k (omega arith)).unlimited, λ h. refl)

pub returns-clause-taken : goal.returns-clause-taken
returns-clause-taken c = (
  λ t k d lt. subst IsTakenOperand (get_or_default c.args.operands.now k no_operand d lt) (c.loop-k.invariant.so_far k (omega arith)),
  λ h. refl,
)
