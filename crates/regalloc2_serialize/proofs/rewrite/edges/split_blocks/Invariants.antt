use Rattle.std.proofs.Common.{◌≡◌, map}
use Rattle.std.specs.List.{range_with_len}
use Rattle.regalloc2_serialize.specs.TableFunction.Draft.{draft_of}
use Rattle.regalloc2_serialize.specs.Rewrite.SplitEdges.{AreJumps, kept_block}
use Rattle.regalloc2_serialize.proofs.rewrite.edges.split_blocks.Given as goal

abbrev pub invariant-loop-block : goal.invariant-loop-block
invariant-loop-block g l = record {
  drafts : map draft_of l.drafts.items ≡ map (kept_block (g.F.Function.function l.f)) (range_with_len 0 l.block);
  jumps : AreJumps (g.F.Function.function l.f) l.block 0 (map draft_of l.jumps.items);
}
