use Rattle.std.proofs.Common.{ℕ, List, arith}
use Rattle.regalloc2_names.specs.Operand.{OperandValue}
use Rattle.regalloc2_checker.specs.TableFacts.{IsListedVReg}
use Rattle.regalloc2_checker.proofs.NamedBits.{more-same, more-twice, all_more, all_done}
use Rattle.regalloc2_checker.proofs.names.list_operands.Goals as goal

pub loop-k-init : goal.loop-k-init
loop-k-init g c = record { more = more-same c.args.bits.now; listed = λ j d less. absurd (omega (arith, less)) }

pub loop-k-preserved : goal.loop-k-preserved
loop-k-preserved g c =
    let old : List ℕ = c.loop-k.bits in
    let new : List ℕ = c.list_vreg.new.bits in
    record {
      more = more-twice c.args.bits.now old new c.loop-k.invariant.more c.in_ok-list_vreg.ensures.more;
      listed = all_more (λ (o : OperandValue). IsListedVReg old o.vreg) (λ (o : OperandValue). IsListedVReg new o.vreg) c.args.operands.now c.loop-k.k
          c.index-operands-k.result (omega (arith, c.loop-k-test.true)) c.index-operands-k.is (λ o h. c.in_ok-list_vreg.ensures.more _ h)
          c.loop-k.invariant.listed (rw (← c.vreg.ensures) c.in_ok-list_vreg.ensures.listed);
    }

pub returns : goal.returns
returns g c = record {
  more = c.loop-k.invariant.more;
  listed = all_done (λ (o : OperandValue). IsListedVReg c.loop-k.bits o.vreg) c.args.operands.now c.loop-k.k (omega (arith, c.loop-k-test.false))
      c.loop-k.invariant.listed;
}
