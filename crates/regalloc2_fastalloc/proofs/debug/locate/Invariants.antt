use Rattle.std.proofs.Common.{◌≡◌, map, take}
use Rattle.regalloc2_function.specs.Stored.{location_of}
use Rattle.regalloc2_fastalloc.specs.DebugLocations.{location_shown}
use Rattle.regalloc2_fastalloc.proofs.debug.locate.Given as goal

-- the labels so far are located
abbrev pub invariant-loop-label : goal.invariant-loop-label
invariant-loop-label g l = map location_of l.locations.items ≡ map (location_shown l.slots l.offsets l.allocs) (take l.label-index l.kept)
