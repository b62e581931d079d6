use Rattle.std.proofs.Common.{◌<◌, List, length, refl, sym, subst, arith, below_more, ◌∙◌}
use Rattle.regalloc2_names.specs.Operand.{OperandValue}
use Rattle.regalloc2_function.specs.Machine.{MachineValue}
use Rattle.regalloc2_function.specs.Views.{machine_of}
use Rattle.regalloc2_function.specs.FunctionValue.{op_at}
use Rattle.regalloc2_function.specs.WellFormed.{IsSoundReuse}
use Rattle.regalloc2_fastalloc_state.proofs.ValidateLemmas.OperandReads.{read_operand}
use Rattle.std.proofs.lemmas.Bool.{false≢true}
use Rattle.regalloc2_fastalloc_state.proofs.validate.constraints.all_reuses_valid.Goals as goal

pub returns-then-not-is_valid_reuse : goal.returns-then-not-is_valid_reuse
returns-then-not-is_valid_reuse g c =
    let ops : List OperandValue = c.args.operands.now in
    let env : MachineValue = machine_of c.args.env.now in
    let lt : c.loop-k.k < length ops = omega (arith, c.loop-k.invariant.within) in (
      λ h. absurd (false≢true h),
      λ all. absurd (false≢true (sym c.if-not-is_valid_reuse.true ∙ c.is_valid_reuse.ensures.1 (subst (IsSoundReuse env ops)
          (sym (read_operand ops c.loop-k.k c.index-operands-k.result lt c.index-operands-k.is)) (all c.loop-k.k lt)))),
    )

pub loop-k-preserved : goal.loop-k-preserved
loop-k-preserved g c =
    let ops : List OperandValue = c.args.operands.now in
    let env : MachineValue = machine_of c.args.env.now in
    let lt : c.loop-k.k < length ops = omega (arith, c.loop-k.invariant.within) in
    record {
      within = c.loop-k.invariant.within;
      so_far = below_more (λ n. IsSoundReuse env ops (op_at ops n)) _ c.loop-k.invariant.so_far
          (subst (IsSoundReuse env ops) (read_operand ops c.loop-k.k c.index-operands-k.result lt c.index-operands-k.is)
          (c.is_valid_reuse.ensures.0 c.if-not-is_valid_reuse.false));
    }

pub returns : goal.returns
returns g c =
    let ops : List OperandValue = c.args.operands.now in
    (λ t. λ k lt. c.loop-k.invariant.so_far k (omega (arith, c.loop-k.invariant.within, lt)), λ h. refl)
