use Rattle.std.proofs.Common.{ℕ, ◌≡◌, ◌<◌, ◌≤◌, ◌-◌, ◌*◌, length, slice_index_or}
use Rattle.regalloc2_names.specs.Place.{NoPlace, before}
use Rattle.regalloc2_function.specs.FunctionValue.{block_at}
use Rattle.regalloc2_fastalloc_state.specs.StateParts.{AllAtOrAfter}
use Rattle.regalloc2_fastalloc_walk.specs.StateView.{tables_of}
use Rattle.regalloc2_fastalloc_proofs.specs.BranchSteps.{AddsTempSlotsAtMost}
use Rattle.regalloc2_fastalloc_proofs.specs.BlockSteps.{AllocsBlocks, offset_of}
use Rattle.regalloc2_analysis.specs.LiveRanges.LiveRanges.{IsWanted}
use Rattle.regalloc2_analysis.specs.LiveRanges.WalkInvariant.{begin_of}
use Rattle.regalloc2_fastalloc_proofs.specs.Located.{LocatedAreUsed}
use Rattle.regalloc2_fastalloc_walk.specs.Findings.{IsFound}
use Rattle.regalloc2_fastalloc_walk.proofs.state.State.alloc_blocks.Given as goal

abbrev pub invariant-loop-b : goal.invariant-loop-b
invariant-loop-b g l = record {
  within : l.b ≤ length (g.F.Function.function l.f).blocks;
  walks : AllocsBlocks (g.F.Function.function l.f) l.fn.allocs (tables_of l.fn.self) l.b l.allocs (tables_of l.self);
  blank : 0 < l.b → (k : ℕ) → k < offset_of (g.F.Function.function l.f) (block_at (g.F.Function.function l.f) (l.b - 1)).range.end →
      slice_index_or l.allocs k NoPlace ≡ NoPlace;
  later : 0 < l.b → AllAtOrAfter (before (block_at (g.F.Function.function l.f) (l.b - 1)).range.end) l.self.edits;
  long : length l.self.places.vreg_allocs ≡ length l.fn.self.places.vreg_allocs;
  machine : AddsTempSlotsAtMost (6 * (length (g.F.Function.function l.f).blocks - l.b)) (tables_of l.fn.self) (tables_of l.self);
  located : LocatedAreUsed (g.F.Function.function l.f) (begin_of (g.F.Function.function l.f) l.b) (tables_of l.self);
  found : IsFound (g.F.Function.function l.f) (IsWanted l.fn.self.places.watched) (begin_of (g.F.Function.function l.f) l.b) l.found;
}

abbrev pub decreases-loop-b : goal.decreases-loop-b
decreases-loop-b g l = l.b
