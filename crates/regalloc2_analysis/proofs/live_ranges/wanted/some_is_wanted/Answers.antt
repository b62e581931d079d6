use Rattle.std.proofs.Common.{List, Bool, ◌≡◌, false, refl, sym, ap, ◌∙◌, arith, below_more, slice_index_or}
use Rattle.regalloc2_names.specs.Operand.{OperandValue}
use Rattle.regalloc2_names.specs.Register.{VirtualRegister}
use Rattle.regalloc2_function.specs.FunctionValue.{op_at}
use Rattle.regalloc2_analysis.proofs.LiveRangesLemmas.ItemsPastEnd.{op_is}
use Rattle.std.proofs.lemmas.Bool.{false≢true}
use Rattle.regalloc2_analysis.proofs.live_ranges.wanted.some_is_wanted.Goals as goal

pub returns-then-is_wanted : goal.returns-then-is_wanted
returns-then-is_wanted c =
    let ops : List OperandValue = c.args.operands.now in
    let W : VirtualRegister → Bool = λ v. slice_index_or c.args.wanted.now v.number false in
    let item : op_at ops c.loop-k.k ≡ c.index-operands-k.result = op_is ops c.loop-k.k c.index-operands-k.result c.loop-k-test.true
    (sym c.index-operands-k.is) in (
      λ h. (
        c.loop-k.k,
        c.loop-k-test.true,
        ap (λ (o : OperandValue). W o.vreg) item ∙ ap W (sym c.vreg.ensures) ∙ sym c.is_wanted.ensures ∙ c.if-is_wanted.true,
      ),
      λ h. refl,
    )

pub loop-k-preserved : goal.loop-k-preserved
loop-k-preserved c =
    let ops : List OperandValue = c.args.operands.now in
    let W : VirtualRegister → Bool = λ v. slice_index_or c.args.wanted.now v.number false in
    let item : op_at ops c.loop-k.k ≡ c.index-operands-k.result = op_is ops c.loop-k.k c.index-operands-k.result c.loop-k-test.true
    (sym c.index-operands-k.is) in
    record {
      so_far = below_more (λ n. W (op_at ops n).vreg ≡ false) _ c.loop-k.invariant.so_far
          (ap (λ (o : OperandValue). W o.vreg) item ∙ ap W (sym c.vreg.ensures) ∙ sym c.is_wanted.ensures ∙ c.if-is_wanted.false);
    }

pub returns : goal.returns
returns c = (
  λ h. absurd (false≢true h),
  λ h. absurd (
      let none = c.loop-k.invariant.so_far h.0 (let lt = h.1 in omega arith) in
      false≢true (sym none ∙ h.2)),
)
