use Rattle.std.proofs.Common.{ℕ, ◌≡◌, ◌<◌, ◌^◌, length, slice_index}
use Rattle.regalloc2_fastalloc_proofs.specs.BlockSteps.{offset_of}
use Rattle.regalloc2_fastalloc.proofs.survey.survey_once.Given as goal

-- the instructions so far
abbrev pub invariant-loop-i : goal.invariant-loop-i
invariant-loop-i g l = record {
  whole : l.i-end ≡ length (g.F.Function.function l.f).insts;
  long : length l.offsets.items ≡ l.i;
  fits : l.total < 2 ^ 32;
  so_far : l.total ≡ offset_of (g.F.Function.function l.f) l.i;
  each : (k : ℕ) → k < l.i → slice_index l.offsets.items k ≡ offset_of (g.F.Function.function l.f) k;
}
