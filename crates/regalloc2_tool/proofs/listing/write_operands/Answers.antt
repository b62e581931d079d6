use Rattle.regalloc2_tool.proofs.WrittenInParts.{more_written, all_written}
use Rattle.regalloc2_tool.proofs.ListingLines.{next_operand, no_more_operands}
use Rattle.regalloc2_tool.proofs.listing.write_operands.Goals as goal

pub loop-k-preserved : goal.loop-k-preserved
loop-k-preserved g c = more_written _ _ _ _ _ _ _ c.loop-k.invariant c.in_ok-write_operand.ensures
    (next_operand c.args.places.now c.args.operands.now c.loop-k.k c.index-operands-k.result c.place_at.result c.loop-k-test.true c.index-operands-k.is
    c.place_at.ensures)

pub returns : goal.returns
returns g c = all_written _ _ _ _ c.loop-k.invariant (no_more_operands c.args.places.now c.args.operands.now c.loop-k.k c.loop-k-test.false)
