use Rattle.std.proofs.Common.{ℕ, ◌≡◌, ◌<◌, ◌≤◌, ◌-◌, length, slice_index_or}
use Rattle.regalloc2_names.specs.Place.{NoPlace, before}
use Rattle.regalloc2_function.specs.FunctionValue.{block_at}
use Rattle.regalloc2_fastalloc_state.specs.StateParts.{AllAtOrAfter}
use Rattle.regalloc2_fastalloc_walk.specs.StateView.{tables_of}
use Rattle.regalloc2_fastalloc_proofs.specs.BranchSteps.{AddsTempSlotsAtMost}
use Rattle.regalloc2_fastalloc_proofs.specs.BlockSteps.{AllocsBlockInsts, offset_of}
use Rattle.regalloc2_analysis.specs.LiveRanges.LiveRanges.{IsWanted}
use Rattle.regalloc2_fastalloc_proofs.specs.Located.{LocatedAreUsed}
use Rattle.regalloc2_fastalloc_walk.specs.Findings.{IsFound}
use Rattle.regalloc2_fastalloc_walk.proofs.state.State.alloc_block.Given as goal

abbrev pub invariant-loop-i : goal.invariant-loop-i
invariant-loop-i g l = record {
  first : l.first ≡ (block_at (g.F.Function.function l.cx.f.now) l.block).range.first;
  from : l.first ≤ l.i;
  within : l.i ≤ (block_at (g.F.Function.function l.cx.f.now) l.block).range.end;
  inside : l.i ≤ length (g.F.Function.function l.cx.f.now).insts;
  walks : AllocsBlockInsts (g.F.Function.function l.cx.f.now) l.block l.fn.allocs (tables_of l.fn.self) l.i l.allocs (tables_of l.self);
  blank : (k : ℕ) → k < offset_of (g.F.Function.function l.cx.f.now) l.i → slice_index_or l.allocs k NoPlace ≡ NoPlace;
  later : AllAtOrAfter (before l.i) l.self.edits;
  long : length l.self.places.vreg_allocs ≡ length l.fn.self.places.vreg_allocs;
  machine : AddsTempSlotsAtMost 6 (tables_of l.fn.self) (tables_of l.self);
  begun : l.i ≡ (block_at (g.F.Function.function l.cx.f.now) l.block).range.end → AddsTempSlotsAtMost 0 (tables_of l.fn.self) (tables_of l.self);
  located : LocatedAreUsed (g.F.Function.function l.cx.f.now) l.i (tables_of l.self);
  found : IsFound (g.F.Function.function l.cx.f.now) (IsWanted l.fn.self.places.watched) l.i l.found;
}

abbrev pub decreases-loop-i : goal.decreases-loop-i
decreases-loop-i g l = l.i - l.first
