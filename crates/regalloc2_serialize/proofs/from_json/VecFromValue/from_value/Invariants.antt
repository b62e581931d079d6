use Rattle.std.proofs.Common.{◌≡◌, map, length}
use Rattle.serde_json.specs.View.{view, items_view}
use Rattle.regalloc2_serialize.specs.FromJson.{list, list_onto}
use Rattle.regalloc2_serialize.proofs.from_json.VecFromValue.from_value.Given as goal

abbrev pub invariant-loop-item : goal.invariant-loop-item
invariant-loop-item g l = list_onto g.T.FromValue.reads (map g.T.FromValue.shows l.items.items) (items_view l.rest) ≡ list g.T.FromValue.reads (view l.value)

abbrev pub decreases-loop-item : goal.decreases-loop-item
decreases-loop-item g l = length l.rest
