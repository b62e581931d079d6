use Rattle.std.proofs.Common.{ℕ, ◌≡◌, ◌<◌, ◌≤◌, false, length}
use Rattle.std.specs.Prelude.{slice_index}
use Rattle.regalloc2_function.specs.FunctionValue.{block_at}
use Rattle.regalloc2_checker.specs.Swept.{done_at}
use Rattle.regalloc2_checker.proofs.sweep.leads_to_done.Given as goal

-- the successors so far aren't done
abbrev pub invariant-loop-k : goal.invariant-loop-k
invariant-loop-k g l = record {
  last : l.k-end ≡ length (block_at (g.F.Function.function l.f) l.fn.block).succs;
  low : l.k ≤ length (block_at (g.F.Function.function l.f) l.fn.block).succs;
  open_so_far : (k : ℕ) → k < l.k → done_at l.is_done (slice_index (block_at (g.F.Function.function l.f) l.fn.block).succs k) ≡ false;
}
