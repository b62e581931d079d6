use Rattle.std.proofs.Common.{ℕ, ◌<◌, subst, arith, below_more, length}
use Rattle.regalloc2_function.specs.FunctionValue.{inst_at}
use Rattle.regalloc2_function.specs.OutputValue.{place_at, allocs_of}
use Rattle.regalloc2_function.specs.Views.{machine_of, output_of}
use Rattle.regalloc2_checker.specs.Cells.{operand_of, IsOperandCell, IsTakenByInst}
use Rattle.regalloc2_checker.specs.NamedSlots.{AddsSlots}
use Rattle.regalloc2_checker.proofs.AddedSlots.{adds_none, adds_more, adds_all}
use Rattle.std.proofs.lemmas.Result.{err_from_is_err_and}
use Rattle.regalloc2_checker.proofs.cells.test_insts.Goals as goal

pub loop-i-preserved : goal.loop-i-preserved
loop-i-preserved g c =
    let f = g.F.Function.function c.args.f.now in
    let out = output_of c.args.output.now in
    let env = machine_of c.args.env.now in
    record {
      whole = c.loop-i.invariant.whole;
      within = omega (arith, c.loop-i-test.true);
      cells = below_more _ _ c.loop-i.invariant.cells
          (subst (λ (i : ℕ). (k : ℕ) → k < length (inst_at f i).operands → IsOperandCell env out (operand_of f i k) (place_at (allocs_of out i) k))
          c.new.ensures c.in_ok-test_inst.ensures.cells);
      named = adds_more (λ i n u. IsTakenByInst f out i n u) c.loop-i.i c.args.named.now c.loop-i.named c.test_inst.new.named
          c.loop-i.invariant.named
          (subst (λ (i : ℕ). AddsSlots (λ n u. IsTakenByInst f out i n u) c.loop-i.named c.test_inst.new.named) c.new.ensures
          c.in_ok-test_inst.ensures.named);
    }

pub returns-clause-named : goal.returns-clause-named
returns-clause-named g c =
    let f = g.F.Function.function c.args.f.now in
    let out = output_of c.args.output.now in
    adds_all (λ i n u. IsTakenByInst f out i n u) c.loop-i.i _ c.args.named.now c.loop-i.named
    (omega (arith, c.loop-i.invariant.within, c.loop-i.invariant.whole)) (omega (arith, c.loop-i-test.false, c.loop-i.invariant.whole))
    c.loop-i.invariant.named

pub returns-in_err-test_inst-clause-fault : goal.returns-in_err-test_inst-clause-fault
returns-in_err-test_inst-clause-fault g c =
    let p = err_from_is_err_and c.from_residual.result c.from_residual.ensures.1 in rw (p.1, p.2) c.in_err-test_inst.ensures.fault

pub loop-i-init : goal.loop-i-init
loop-i-init g c = record {
  whole = c.num_insts-i-end.ensures.count;
  within = omega arith;
  cells = λ i less. absurd (omega (arith, less));
  named = adds_none (λ i n u. IsTakenByInst (g.F.Function.function c.args.f.now) (output_of c.args.output.now) i n u) c.args.named.now;
}

pub test_inst-requires-clause-regs : goal.test_inst-requires-clause-regs
test_inst-requires-clause-regs g c = c.requires.regs

pub test_inst-requires-clause-in_order : goal.test_inst-requires-clause-in_order
test_inst-requires-clause-in_order g c = c.requires.in_order

pub test_inst-requires-clause-inst : goal.test_inst-requires-clause-inst
test_inst-requires-clause-inst g c = omega (arith, c.new.ensures, c.loop-i-test.true, c.loop-i.invariant.whole)

pub returns-clause-cells : goal.returns-clause-cells
returns-clause-cells g c = λ i less. c.loop-i.invariant.cells i (omega (arith, less, c.loop-i.invariant.whole, c.loop-i-test.false))
