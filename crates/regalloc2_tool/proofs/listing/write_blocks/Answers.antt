use Rattle.std.proofs.Common.{arith}
use Rattle.std.proofs.KnownBytes.{Appends-nil}
use Rattle.std.specs.Prelude.{[]}
use Rattle.regalloc2_function.specs.Views.{output_of}
use Rattle.regalloc2_tool.proofs.WrittenInParts.{more_written, all_written}
use Rattle.regalloc2_tool.proofs.ListingLines.{all_blocks, next_block, no_more_blocks}
use Rattle.regalloc2_tool.proofs.listing.write_blocks.Goals as goal

pub loop-b-init : goal.loop-b-init
loop-b-init g c = ([], Appends-nil (g.W.Write.contents c.args.writer.now), all_blocks (g.F.Function.function c.args.f.now) (output_of c.args.output.now))

pub loop-b-preserved : goal.loop-b-preserved
loop-b-preserved g c = more_written _ _ _ _ _ _ _ c.loop-b.invariant c.in_ok-write_block.ensures
    (rw c.new.ensures (next_block (g.F.Function.function c.args.f.now) (output_of c.args.output.now) c.loop-b.b (omega arith)))

pub returns : goal.returns
returns g c = all_written _ _ _ _ c.loop-b.invariant (no_more_blocks (g.F.Function.function c.args.f.now) (output_of c.args.output.now) c.loop-b.b
    (omega arith))
