use Rattle.std.proofs.Common.{ℕ, ◌≡◌, ◌<◌, ◌≤◌, length}
use Rattle.regalloc2_function.specs.FunctionValue.{inst_at}
use Rattle.regalloc2_function.specs.OutputValue.{place_at, allocs_of}
use Rattle.regalloc2_function.specs.Views.{machine_of, output_of}
use Rattle.regalloc2_checker.specs.Cells.{IsOperandCell, IsTakenByOperand, operand_of}
use Rattle.regalloc2_checker.specs.NamedSlots.{AddsSlots}
use Rattle.regalloc2_checker.proofs.cells.test_inst.Given as goal

-- the operands so far are tested, and the slots that they name were added
abbrev pub invariant-loop-k : goal.invariant-loop-k
invariant-loop-k g l = record {
  operands : l.operands ≡ (inst_at (g.F.Function.function l.f) l.inst).operands;
  places : l.places ≡ allocs_of (output_of l.output) l.inst;
  whole : l.k-end ≡ length l.operands;
  within : l.k ≤ l.k-end;
  cells : (j : ℕ) → j < l.k → IsOperandCell (machine_of l.env) (output_of l.output) (operand_of (g.F.Function.function l.f) l.inst j)
      (place_at (allocs_of (output_of l.output) l.inst) j);
  named : AddsSlots (λ n u. (j : ℕ) × (j < l.k) × IsTakenByOperand (g.F.Function.function l.f) (output_of l.output) l.inst j n u)
      l.initial.named l.named;
}
