use Rattle.std.proofs.Common.{◌≡◌, ◌∙◌, ap, sym, subst, List, [], ◌∷◌, ◌++◌, map, take}
use Rattle.std.proofs.lemmas.List.{map-append, take_all}
use Rattle.regalloc2_function.specs.OutputValue.{DebugLocation}
use Rattle.regalloc2_function.specs.Stored.{location_of}
use Rattle.regalloc2_analysis.specs.declared.live_ranges.KeptLabel.{KeptLabel}
use Rattle.regalloc2_analysis.proofs.LiveRangesLemmas.KeptLabels.{map_more}
use Rattle.regalloc2_fastalloc.specs.DebugLocations.{HasPlace, location_shown}
use Rattle.regalloc2_fastalloc.proofs.debug.locate.Goals as goal

pub location-requires : goal.location-requires
location-requires g c = subst (λ (k : KeptLabel). HasPlace c.args.slots.now c.args.offsets.now c.args.allocs.now k.range) (sym c.label-item.is)
    (c.requires c.loop-label.label-index c.label-item.result c.loop-label-test.true)

pub loop-label-preserved : goal.loop-label-preserved
loop-label-preserved g c =
    let show : KeptLabel → DebugLocation = location_shown c.args.slots.now c.args.offsets.now c.args.allocs.now in
    rw c.in_ok-push.ensures.items
    (map-append location_of c.loop-label.locations.items (c.location.result ∷ [])
    ∙ ap (λ (ds : List DebugLocation). ds ++ location_of c.location.result ∷ []) c.loop-label.invariant
    ∙ ap (λ (d : DebugLocation). map show (take c.loop-label.label-index c.args.kept.now) ++ d ∷ []) c.location.ensures
    ∙ sym (map_more show c.args.kept.now c.loop-label.label-index c.label-item.result c.loop-label-test.true c.label-item.is))

pub returns-clause-ok : goal.returns-clause-ok
returns-clause-ok g c =
    subst (λ (ks : List KeptLabel). map location_of c.loop-label.locations.items ≡ map (location_shown c.args.slots.now c.args.offsets.now c.args.allocs.now) ks)
    (take_all c.loop-label.label-index c.args.kept.now c.loop-label-test.false) c.loop-label.invariant
