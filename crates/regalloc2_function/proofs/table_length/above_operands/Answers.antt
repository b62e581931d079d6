use Rattle.std.proofs.Common.{ℕ, ◌≤◌, inl, length, take, sym, subst, arith}
use Rattle.std.proofs.lemmas.List.{take_all}
use Rattle.std.proofs.lemmas.List.Elements.{All-more, All-nil, All-same, All-weaker}
use Rattle.regalloc2_function.specs.Inside.TableLength.{IsBelow}
use Rattle.regalloc2_function.proofs.TableLengths.{operand_more}
use Rattle.regalloc2_function.proofs.table_length.above_operands.Goals as goal

pub loop-operand-init : goal.loop-operand-init
loop-operand-init c = record { rises = omega arith; above = All-nil (IsBelow c.args.bound); near = inl (omega arith) }

pub loop-operand-preserved : goal.loop-operand-preserved
loop-operand-preserved c =
    let n : ℕ = c.above_operand-above.result in
    let rises = c.above_operand-above.ensures.rises in
    record {
      rises = omega (arith, c.loop-operand.invariant.rises, rises);
      above = All-more (IsBelow n) c.args.operands.now c.loop-operand.operand-index c.operand-item.result c.loop-operand-test.true
          (All-weaker (IsBelow c.loop-operand.above) (IsBelow n) (λ o below def. let less = below def in omega (arith, less, rises))
          (take c.loop-operand.operand-index c.args.operands.now) c.loop-operand.invariant.above)
          (subst (IsBelow n) c.operand-item.is c.above_operand-above.ensures.above);
      near = operand_more c.args.bound c.loop-operand.above n c.args.operands.now c.operand-item.result
          (c.loop-operand.operand-index, c.loop-operand-test.true, sym c.operand-item.is) c.above_operand-above.ensures.near c.loop-operand.invariant.near;
    }

pub returns-clause-above : goal.returns-clause-above
returns-clause-above c =
    let past : length c.args.operands.now ≤ c.loop-operand.operand-index = omega (arith, c.loop-operand-test.false) in
    All-same (IsBelow c.loop-operand.above) c.args.operands.now (take c.loop-operand.operand-index c.args.operands.now)
    (sym (take_all c.loop-operand.operand-index c.args.operands.now past)) c.loop-operand.invariant.above
