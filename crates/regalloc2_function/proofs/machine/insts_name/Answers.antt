use Rattle.std.proofs.Common.{arith, below_more}
use Rattle.regalloc2_index.proofs.Bools.{false_is_not_true, false_refutes}
use Rattle.regalloc2_function.proofs.machine.insts_name.Goals as goal

pub loop-i-preserved : goal.loop-i-preserved
loop-i-preserved g c = record {
  whole = c.num_insts-i-end.ensures.count;
  none = below_more _ _ c.loop-i.invariant.none (rw (← c.new.ensures) (false_refutes _ c.if-inst_names.false c.inst_names.ensures.1));
}

pub returns : goal.returns
returns g c =
    (λ t. absurd (false_is_not_true t), λ h. absurd (c.loop-i.invariant.none h.0 (omega (arith, h.1, c.loop-i-test.false, c.loop-i.invariant.whole)) h.2))
