use Rattle.std.proofs.Common.{ℕ, ◌≡◌, ◌⊎◌, ◌≤◌, ◌∙◌, inl, List, ap, subst, arith, below_more}
use Rattle.std.specs.Prelude.{All}
use Rattle.std.proofs.lemmas.List.Elements.{All-weaker}
use Rattle.regalloc2_names.specs.Operand.{OperandValue}
use Rattle.regalloc2_function.specs.FunctionValue.{FunctionValue, inst_at}
use Rattle.regalloc2_function.specs.Inside.TableLength.{IsBelow, ReachedByDef}
use Rattle.regalloc2_function.proofs.TableLengths.{inst_more}
use Rattle.regalloc2_function.proofs.table_length.above_insts.Goals as goal

pub loop-i-init : goal.loop-i-init
loop-i-init g c = record {
  whole = c.num_insts-i-end.ensures.count;
  rises = omega arith;
  above = λ i less. absurd (omega (arith, less));
  near = inl (omega arith);
}

pub loop-i-preserved : goal.loop-i-preserved
loop-i-preserved g c =
    let f : FunctionValue = g.F.Function.function c.args.f.now in
    let i : ℕ = c.loop-i.i in
    let n : ℕ = c.above_operands-above.result in
    let rises = c.above_operands-above.ensures.rises in
    let ops : c.inst_operands.result.now ≡ (inst_at f i).operands = c.inst_operands.ensures ∙ ap (λ (k : ℕ). (inst_at f k).operands) c.new.ensures in
    record {
      whole = c.loop-i.invariant.whole;
      rises = omega (arith, c.loop-i.invariant.rises, rises);
      above = below_more (λ (k : ℕ). All (IsBelow n) (inst_at f k).operands) i
          (λ k lt. All-weaker (IsBelow c.loop-i.above) (IsBelow n) (λ o below def. let less = below def in omega (arith, less, rises)) (inst_at f k).operands
          (c.loop-i.invariant.above k lt))
          (subst (All (IsBelow n)) ops c.above_operands-above.ensures.above);
      near = inst_more f c.args.bound i c.loop-i.above n
          (subst (λ (os : List OperandValue). (n ≤ c.loop-i.above) ⊎ ReachedByDef os n) ops c.above_operands-above.ensures.near) c.loop-i.invariant.near;
    }

pub returns-clause-above : goal.returns-clause-above
returns-clause-above g c i less = c.loop-i.invariant.above i (omega (arith, less, c.loop-i-test.false, c.loop-i.invariant.whole))
