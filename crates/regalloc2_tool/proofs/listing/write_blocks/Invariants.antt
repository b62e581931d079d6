use Rattle.std.specs.Prelude.{◌-◌, flat_map, length}
use Rattle.std.specs.List.{range_with_len}
use Rattle.regalloc2_function.specs.Views.{output_of}
use Rattle.regalloc2_tool.specs.Listing.{block_text, blocks_text}
use Rattle.regalloc2_tool.proofs.WrittenInParts.{LeavesRest}
use Rattle.regalloc2_tool.proofs.listing.write_blocks.Given as goal

abbrev pub invariant-loop-b : goal.invariant-loop-b
invariant-loop-b g l = LeavesRest (g.W.Write.contents l.fn.writer) (g.W.Write.contents l.writer) (blocks_text (g.F.Function.function l.f) (output_of l.output))
    (flat_map (block_text (g.F.Function.function l.f) (output_of l.output)) (range_with_len l.b (length (g.F.Function.function l.f).blocks - l.b)))
