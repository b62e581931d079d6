use Rattle.std.proofs.Common.{ℕ, ◌≡◌, ◌+◌, ◌<◌, ◌≤◌, length, slice_index}
use Rattle.regalloc2_function.specs.FunctionValue.{inst_at}
use Rattle.regalloc2_function.specs.OutputValue.{alloc_end}
use Rattle.regalloc2_function.specs.Views.{output_of}
use Rattle.regalloc2_function.proofs.listing.Output.has_places_in_order.Given as goal

-- the instructions so far are in order
abbrev pub invariant-loop-i : goal.invariant-loop-i
invariant-loop-i g l = record {
  whole : l.count ≡ length (g.F.Function.function l.func).insts;
  each : length (output_of l.self).offsets ≡ l.count;
  begins : 0 < l.count → slice_index (output_of l.self).offsets 0 ≡ 0;
  so_far : (n : ℕ) → n < l.i → (slice_index (output_of l.self).offsets n ≤ alloc_end (output_of l.self) n)
      × (slice_index (output_of l.self).offsets n ≤ length (output_of l.self).allocs)
      × (alloc_end (output_of l.self) n ≤ slice_index (output_of l.self).offsets n + length (inst_at (g.F.Function.function l.func) n).operands);
}
