use Rattle.std.proofs.Common.{ℕ, ◌≡◌, ◌<◌, ◌≤◌, length}
use Rattle.regalloc2_semantics.specs.Places.{IsMoveEnd}
use Rattle.regalloc2_function.specs.Views.{machine_of, output_of}
use Rattle.regalloc2_checker.specs.Cells.{IsWithinClass, IsTakenByMove, move_of_index}
use Rattle.regalloc2_checker.specs.NamedSlots.{AddsSlots}
use Rattle.regalloc2_checker.proofs.cells.test_moves.Given as goal

-- the moves so far are tested, and the slots that they name were added
abbrev pub invariant-loop-k : goal.invariant-loop-k
invariant-loop-k g l = record {
  whole : l.k-end ≡ length (output_of l.output).edits;
  within : l.k ≤ l.k-end;
  ends : (j : ℕ) → j < l.k → IsMoveEnd (machine_of l.env) (output_of l.output) (move_of_index (output_of l.output) j).from
      × IsMoveEnd (machine_of l.env) (output_of l.output) (move_of_index (output_of l.output) j).to;
  classes : (j : ℕ) → j < l.k → IsWithinClass (move_of_index (output_of l.output) j);
  named : AddsSlots (λ n u. (j : ℕ) × (j < l.k) × IsTakenByMove (g.F.Function.function l.f) (move_of_index (output_of l.output) j) n u)
      l.initial.named l.named;
}
