use Rattle.std.proofs.Common.{◌≡◌, ◌≤◌, length}
use Rattle.regalloc2_names.specs.Place.{before}
use Rattle.regalloc2_function.specs.Views.{output_of}
use Rattle.regalloc2_checker.specs.ListingCopied.{AreBeforePoint, IsListedBefore}
use Rattle.regalloc2_checker.proofs.output.moves_by_inst.Given as goal

abbrev pub invariant-loop-b : goal.invariant-loop-b
invariant-loop-b g l = record {
  within : l.b-end ≡ length (g.F.Function.function l.f).blocks;
  low : l.b ≤ length (g.F.Function.function l.f).blocks;
  edits : l.passed ≤ length l.out.edits.items;
  passed : AreBeforePoint l.out.edits.items l.passed (before (length l.listing.items));
  listed : IsListedBefore (g.F.Function.function l.f) (output_of l.out) l.out.edits.items l.b l.listing.items;
}
