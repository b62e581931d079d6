use Rattle.std.proofs.Common.{◌≡◌, ◌≤◌, length}
use Rattle.regalloc2_function.specs.FunctionValue.{block_at}
use Rattle.regalloc2_function.specs.Views.{output_of}
use Rattle.regalloc2_checker.proofs.CopiedListing.{BeginsAt, IsCopying}
use Rattle.regalloc2_checker.proofs.output.list_block.Given as goal

-- the instructions so far are listed, and the edits before the next one begin where it is said
abbrev pub invariant-loop-i : goal.invariant-loop-i
invariant-loop-i g l = record {
  end : l.i-end ≡ (block_at (g.F.Function.function l.f) l.fn.block).range.end;
  low : (block_at (g.F.Function.function l.f) l.fn.block).range.first ≤ l.i;
  high : l.i ≤ (block_at (g.F.Function.function l.f) l.fn.block).range.end;
  long : l.i ≡ length l.listing.items;
  begins : BeginsAt l.edits (block_at (g.F.Function.function l.f) l.fn.block).range.first l.i l.from;
  copying : IsCopying (g.F.Function.function l.f) (output_of l.out) l.out.edits.items l.fn.block l.listing.items;
}
