use Rattle.std.specs.Prelude.{drop, flat_map, map}
use Rattle.regalloc2_function.specs.Views.{output_of}
use Rattle.regalloc2_tool.specs.Listing.{debug_line, debug_text}
use Rattle.regalloc2_tool.proofs.WrittenInParts.{LeavesRest}
use Rattle.regalloc2_tool.proofs.listing.write_debug_locations.Given as goal

abbrev pub invariant-loop-location : goal.invariant-loop-location
invariant-loop-location g l = LeavesRest (g.W.Write.contents l.fn.writer) (g.W.Write.contents l.writer) (debug_text (output_of l.output))
    (flat_map debug_line (map (λ d. record { label = d.0; start = d.1; end = d.2; place = d.3 }) (drop l.location-index l.location-items)))
