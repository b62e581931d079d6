use Rattle.std.proofs.Common.{List, ◌≡◌, false, refl, sym, ap, ◌∙◌, arith, below_more}
use Rattle.regalloc2_names.specs.Operand.{OperandValue, is_def}
use Rattle.regalloc2_function.specs.FunctionValue.{op_at}
use Rattle.regalloc2_analysis.proofs.BranchDefsLemmas.BlockEnds.{read_operand}
use Rattle.std.proofs.lemmas.Bool.{false≢true}
use Rattle.regalloc2_analysis.proofs.branch_defs.edges.some_defines.Goals as goal

pub returns-then-is_def : goal.returns-then-is_def
returns-then-is_def c =
    let ops : List OperandValue = c.args.operands.now in
    let is = read_operand ops c.loop-k.k c.index-operands-k.result c.loop-k-test.true c.index-operands-k.is in (
      λ h. (
        (op_at ops c.loop-k.k).vreg.number,
        c.loop-k.k,
        record {
          operand = c.loop-k-test.true;
          definition = ap (λ (o : OperandValue). is_def o.kind) (sym is) ∙ sym c.is_def.ensures ∙ c.if-is_def.true;
          number = refl;
        },
      ),
      λ h. refl,
    )

pub loop-k-preserved : goal.loop-k-preserved
loop-k-preserved c =
    let ops : List OperandValue = c.args.operands.now in
    let is = read_operand ops c.loop-k.k c.index-operands-k.result c.loop-k-test.true c.index-operands-k.is in
    record {
      so_far = below_more (λ n. is_def (op_at ops n).kind ≡ false) _ c.loop-k.invariant.so_far
          (ap (λ (o : OperandValue). is_def o.kind) (sym is) ∙ sym c.is_def.ensures ∙ c.if-is_def.false);
    }

pub returns : goal.returns
returns c = (
  λ h. absurd (false≢true h),
  λ h. absurd (
      let none : is_def (op_at c.args.operands.now h.1).kind ≡ false = c.loop-k.invariant.so_far h.1 (let lt = h.2.operand in omega arith) in
      false≢true (sym none ∙ h.2.definition)),
)
