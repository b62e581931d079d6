use Rattle.std.proofs.Common.{List, refl, sym, subst, arith, below_more, ◌∙◌}
use Rattle.regalloc2_names.specs.Operand.{OperandValue}
use Rattle.regalloc2_fastalloc_state.specs.Validate.Constraints.{DefinesInPlace}
use Rattle.regalloc2_fastalloc_state.proofs.ValidateLemmas.OperandReads.{read_operand}
use Rattle.regalloc2_function.specs.FunctionValue.{op_at}
use Rattle.std.proofs.lemmas.Bool.{false≢true}
use Rattle.regalloc2_fastalloc_state.proofs.validate.constraints.all_define_in_place.Goals as goal

pub returns-then-not-defines_in_place : goal.returns-then-not-defines_in_place
returns-then-not-defines_in_place c =
    let ops : List OperandValue = c.args.operands.now in
    let is = read_operand ops c.loop-k.k c.index-operands-k.result c.loop-k-test.true c.index-operands-k.is in
    (λ h. absurd (false≢true h), λ all. absurd (false≢true (sym c.if-not-defines_in_place.true ∙ c.defines_in_place.ensures.1 (subst DefinesInPlace (sym is) (all c.loop-k.k c.loop-k-test.true)))))

pub loop-k-preserved : goal.loop-k-preserved
loop-k-preserved c =
    let ops : List OperandValue = c.args.operands.now in
    let is = read_operand ops c.loop-k.k c.index-operands-k.result c.loop-k-test.true c.index-operands-k.is in
    record {
      so_far = below_more (λ n. DefinesInPlace (op_at ops n)) _ c.loop-k.invariant.so_far
          (subst DefinesInPlace is (c.defines_in_place.ensures.0 c.if-not-defines_in_place.false));
    }

pub returns : goal.returns
returns c = (λ t. λ k lt. c.loop-k.invariant.so_far k (omega arith), λ h. refl)
