use Rattle.std.proofs.Common.{ap}
use Rattle.std.specs.Prelude.{length, flat_map}
use Rattle.std.proofs.lemmas.List.Elements.{All-tail}
use Rattle.regalloc2_function.specs.FunctionValue.{block_at}
use Rattle.regalloc2_function.specs.Views.{output_of}
use Rattle.regalloc2_tool.specs.Listing.{item_line}
use Rattle.regalloc2_tool.proofs.ListedInsts.{HasInstBelow, block_below, first_below}
use Rattle.regalloc2_tool.proofs.ListingLines.{block_begun, next_inst, next_move}
use Rattle.regalloc2_tool.proofs.WrittenInParts.{none_written, more_written, all_written}
use Rattle.regalloc2_tool.proofs.listing.write_block.Goals as goal

pub loop-item-init : goal.loop-item-init
loop-item-init g c =
    let f = g.F.Function.function c.args.f.now in
    let w = c.requires.blocks c.args.block c.requires.block in
    let b = block_below (output_of c.args.output.now) (length f.insts) (block_at f c.args.block).range.first (block_at f c.args.block).range.end w.0 w.1 in (
      rw (c.into_iter-item-iterator.ensures.into_iter_gives, c.block_insts_and_edits-item-items.ensures.items) b,
      more_written _ _ _ _ _ _ _ (none_written _ _) c.in_ok-writeln.ensures.bytes
          (rw c.into_iter-item-iterator.ensures.into_iter_gives (block_begun f (output_of c.args.output.now) c.args.block c.index-number.result _
          c.index-number.ensures c.block_insts_and_edits-item-items.ensures.items)),
    )

pub write_inst-requires-clause-inst : goal.write_inst-requires-clause-inst
write_inst-requires-clause-inst g c = first_below _ _ _ _ _ c.loop-item.invariant.0 c.in-Some.ensures.steps c.in-Inst.is

pub loop-item-preserved-in-Continue-branch-2 : goal.loop-item-preserved-in-Continue-branch-2
loop-item-preserved-in-Continue-branch-2 g c = (
  All-tail (HasInstBelow (length (g.F.Function.function c.args.f.now).insts)) _ _ (rw c.in-Some.ensures.steps at c.loop-item.invariant.0),
  more_written _ _ _ _ _ _ _ c.loop-item.invariant.1 c.in_ok-write_inst-in-Inst.ensures
      (next_inst (g.F.Function.function c.args.f.now) (output_of c.args.output.now) _ _ _ _ c.in-Some.ensures.steps c.in-Inst.is),
)

pub loop-item-preserved : goal.loop-item-preserved
loop-item-preserved g c = (
  All-tail (HasInstBelow (length (g.F.Function.function c.args.f.now).insts)) _ _ (rw c.in-Some.ensures.steps at c.loop-item.invariant.0),
  more_written _ _ _ _ _ _ _ c.loop-item.invariant.1 c.in_ok-write_move-in-Edit.ensures
      (next_move (g.F.Function.function c.args.f.now) (output_of c.args.output.now) _ _ _ _ c.in-Some.ensures.steps c.in-Edit.is),
)

pub returns : goal.returns
returns g c = all_written _ _ _ _ c.loop-item.invariant.1 (ap (flat_map (item_line (g.F.Function.function c.args.f.now) (output_of c.args.output.now)))
    c.in-None.ensures.steps.0)
