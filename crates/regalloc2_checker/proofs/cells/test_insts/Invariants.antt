use Rattle.std.proofs.Common.{ℕ, ◌≡◌, ◌<◌, ◌≤◌, length}
use Rattle.regalloc2_function.specs.FunctionValue.{inst_at}
use Rattle.regalloc2_function.specs.OutputValue.{place_at, allocs_of}
use Rattle.regalloc2_function.specs.Views.{machine_of, output_of}
use Rattle.regalloc2_checker.specs.Cells.{IsOperandCell, IsTakenByInst, operand_of}
use Rattle.regalloc2_checker.specs.NamedSlots.{AddsSlots}
use Rattle.regalloc2_checker.proofs.cells.test_insts.Given as goal

-- the instructions so far are tested, and the slots that they name were added
abbrev pub invariant-loop-i : goal.invariant-loop-i
invariant-loop-i g l = record {
  whole : l.i-end ≡ length (g.F.Function.function l.f).insts;
  within : l.i ≤ l.i-end;
  cells : (i : ℕ) → i < l.i → (k : ℕ) → k < length (inst_at (g.F.Function.function l.f) i).operands →
      IsOperandCell (machine_of l.env) (output_of l.output) (operand_of (g.F.Function.function l.f) i k) (place_at (allocs_of (output_of l.output) i) k);
  named : AddsSlots (λ n u. (i : ℕ) × (i < l.i) × IsTakenByInst (g.F.Function.function l.f) (output_of l.output) i n u)
      l.initial.named l.named;
}
