use Rattle.std.specs.Prelude.{All, flat_map, length}
use Rattle.regalloc2_function.specs.Views.{output_of, rest_of}
use Rattle.regalloc2_tool.specs.Listing.{block_text, item_line}
use Rattle.regalloc2_tool.proofs.ListedInsts.{HasInstBelow}
use Rattle.regalloc2_tool.proofs.WrittenInParts.{LeavesRest}
use Rattle.regalloc2_tool.proofs.listing.write_block.Given as goal

abbrev pub invariant-loop-item : goal.invariant-loop-item
invariant-loop-item g l = All (HasInstBelow (length (g.F.Function.function l.f).insts)) (rest_of l.item-iterator) ×
    LeavesRest (g.W.Write.contents l.fn.writer) (g.W.Write.contents l.writer) (block_text (g.F.Function.function l.f) (output_of l.output) l.fn.block)
    (flat_map (item_line (g.F.Function.function l.f) (output_of l.output)) (rest_of l.item-iterator))
