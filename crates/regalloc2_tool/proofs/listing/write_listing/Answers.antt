use Rattle.regalloc2_function.specs.Views.{output_of}
use Rattle.regalloc2_tool.proofs.ListingLines.{listing_written}
use Rattle.regalloc2_tool.proofs.listing.write_listing.Goals as goal

pub returns : goal.returns
returns g c = listing_written c.write_debug_locations.result _ _ _ _ (g.F.Function.function c.args.f.now) (output_of c.args.output.now)
    c.in_ok-write_blocks.ensures c.in_ok-writeln.ensures.bytes c.write_debug_locations.ensures
