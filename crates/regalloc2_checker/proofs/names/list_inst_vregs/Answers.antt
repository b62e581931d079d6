use Rattle.std.proofs.Common.{ℕ, List, arith, subst}
use Rattle.std.specs.Prelude.{All}
use Rattle.regalloc2_names.specs.Operand.{OperandValue}
use Rattle.regalloc2_function.specs.FunctionValue.{FunctionValue, inst_at}
use Rattle.regalloc2_checker.specs.TableFacts.{IsListedVReg}
use Rattle.regalloc2_checker.proofs.NamedBits.{more-same, more-twice, up_to}
use Rattle.regalloc2_checker.proofs.names.list_inst_vregs.Goals as goal

pub loop-i-init : goal.loop-i-init
loop-i-init g c = record {
  end = c.num_insts-i-end.ensures.count;
  more = more-same c.args.bits.now;
  listed = λ i less. absurd (omega (arith, less));
}

pub loop-i-preserved : goal.loop-i-preserved
loop-i-preserved g c =
    let f : FunctionValue = g.F.Function.function c.args.f.now in
    let old : List ℕ = c.loop-i.bits in
    let new : List ℕ = c.list_operands.new.bits in
    record {
      end = c.loop-i.invariant.end;
      more = more-twice c.args.bits.now old new c.loop-i.invariant.more c.in_ok-list_operands.ensures.more;
      listed = up_to (λ i. All (λ (op : OperandValue). IsListedVReg old op.vreg) (inst_at f i).operands)
          (λ i. All (λ (op : OperandValue). IsListedVReg new op.vreg) (inst_at f i).operands) c.loop-i.i
          (λ i h k d less. c.in_ok-list_operands.ensures.more _ (h k d less)) c.loop-i.invariant.listed
          (subst (λ n. All (λ (op : OperandValue). IsListedVReg new op.vreg) (inst_at f n).operands) c.new.ensures
          (subst (λ (os : List OperandValue). All (λ (op : OperandValue). IsListedVReg new op.vreg) os) c.inst_operands.ensures
          c.in_ok-list_operands.ensures.listed));
    }

pub returns : goal.returns
returns g c = record {
  more = c.loop-i.invariant.more;
  listed = λ i less. c.loop-i.invariant.listed i (omega (arith, less, c.loop-i-test.false, c.loop-i.invariant.end));
}
