use Rattle.std.proofs.Common.{ℕ, ◌≡◌, ◌<◌, ◌≤◌, length}
use Rattle.regalloc2_names.specs.declared.RegClass.{RegClass}
use Rattle.regalloc2_semantics.specs.Places.{IsValidPlace}
use Rattle.regalloc2_function.specs.Views.{machine_of, output_of}
use Rattle.regalloc2_checker.specs.Cells.{location_of_index, IsTakenByLocation}
use Rattle.regalloc2_checker.specs.NamedSlots.{AddsSlots}
use Rattle.regalloc2_checker.proofs.cells.test_locations.Given as goal

-- the debug locations so far are tested, and the slots that they name were added
abbrev pub invariant-loop-k : goal.invariant-loop-k
invariant-loop-k g l = record {
  whole : l.k-end ≡ length (output_of l.output).debug_locations;
  within : l.k ≤ l.k-end;
  cells : (j : ℕ) → j < l.k → (c : RegClass) × IsValidPlace (machine_of l.env) (output_of l.output) c (location_of_index (output_of l.output) j);
  named : AddsSlots (λ n u. (j : ℕ) × (j < l.k) × IsTakenByLocation (output_of l.output) j n u) l.initial.named l.named;
}
