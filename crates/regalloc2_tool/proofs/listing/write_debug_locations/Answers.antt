use Rattle.std.proofs.Common.{refl}
use Rattle.std.proofs.KnownBytes.{Appends-nil}
use Rattle.std.specs.Prelude.{[]}
use Rattle.regalloc2_function.specs.Views.{output_of}
use Rattle.regalloc2_tool.proofs.WrittenInParts.{more_written, all_written}
use Rattle.regalloc2_tool.proofs.ListingLines.{all_locations, next_location, no_more_locations}
use Rattle.regalloc2_tool.proofs.listing.write_debug_locations.Goals as goal

pub loop-location-init : goal.loop-location-init
loop-location-init g c = (
  [],
  Appends-nil (g.W.Write.contents c.args.writer.now),
  all_locations _ (output_of c.args.output.now) _ (rw c.deref-location-items.ensures.value refl),
)

pub loop-location-preserved : goal.loop-location-preserved
loop-location-preserved g c = more_written _ _ _ _ _ _ _ c.loop-location.invariant c.in_ok-write_debug_location.ensures
    (next_location _ c.deref-location-items.result.now c.loop-location.location-index c.location-item.result c.loop-location-test.true c.location-item.is)

pub returns : goal.returns
returns g c = all_written _ _ _ _ c.loop-location.invariant (no_more_locations _ c.deref-location-items.result.now c.loop-location.location-index
    c.loop-location-test.false)
