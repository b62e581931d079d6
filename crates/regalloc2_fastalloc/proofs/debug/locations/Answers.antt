use Rattle.std.proofs.Common.{◌≡◌, ◌∙◌, List, map, sym, ap, subst, rules}
use Rattle.std.specs.Prelude.{All, IsPermutation}
use Rattle.std.specs.List.Sorted.{IsStableByKey}
use Rattle.std.specs.Ordering.{nat_cmp}
use Rattle.std.proofs.lemmas.List.Elements.{All-weaker}
use Rattle.std.proofs.lemmas.List.Sorted.{IsNonDecreasingBy-from_sort, IsPermutation-map, answers_always}
use Rattle.regalloc2_function.specs.FunctionValue.{FunctionValue}
use Rattle.regalloc2_function.specs.OutputValue.{DebugLocation}
use Rattle.regalloc2_function.specs.Stored.{location_of}
use Rattle.regalloc2_analysis.specs.declared.live_ranges.KeptLabel.{KeptLabel}
use Rattle.regalloc2_analysis.proofs.LiveRangesLemmas.KeptLabels.{IsKeptLabelOf, kept_from}
use Rattle.regalloc2_fastalloc.specs.DebugLocations.{HasPlace, location_shown}
use Rattle.regalloc2_fastalloc.proofs.DebugLocationsFound.{LocationParts, has_place, rising_located, stable_located}
use Rattle.regalloc2_fastalloc.proofs.debug.locations.Goals as goal

pub locate-requires : goal.locate-requires
locate-requires g c =
    let f : FunctionValue = g.F.Function.function c.args.f.now in
    subst (All (λ (k : KeptLabel). HasPlace c.args.slots.now c.args.offsets.now c.args.allocs.now k.range)) (sym c.deref.ensures.value)
    (All-weaker (IsKeptLabelOf f f.labels) (λ (k : KeptLabel). HasPlace c.args.slots.now c.args.offsets.now c.args.allocs.now k.range)
    (λ k one. has_place f c.requires.ssa c.args.slots.now c.args.offsets.now c.args.allocs.now c.requires.room c.requires.offsets_long
    (λ i lt. c.requires.offsets i lt) c.requires.allocs_long one.1 k one.4.1)
    c.in_ok-kept.kept.items (kept_from c.in_ok-kept.ensures.ok))

pub returns-clause-ok : goal.returns-clause-ok
returns-clause-ok g c =
    let show : KeptLabel → DebugLocation = location_shown c.args.slots.now c.args.offsets.now c.args.allocs.now in
    let items : List LocationParts = c.sort_by_key.new.self.items in
    let keys = answers_always _ _ _ (λ f a r next called. search rules) in
    let listed : map location_of c.in_ok-locations.locations.items ≡ map show c.in_ok-kept.kept.items = c.in_ok-locations.ensures.ok
    ∙ ap (map show) c.deref.ensures.value in
    record {
      kept = c.in_ok-kept.kept.items;
      are = c.in_ok-kept.ensures.ok;
      same = subst (λ (ds : List DebugLocation). IsPermutation ds (map location_of items)) listed
          (IsPermutation-map location_of _ _ c.sort_by_key.ensures.permutation);
      rising = rising_located items (IsNonDecreasingBy-from_sort (λ (x : LocationParts). x.0) _ (c.in_ok-sort_by_key.ensures.sorted (λ x. x.0) keys));
      stable = subst (λ (ds : List DebugLocation). IsStableByKey (λ (d : DebugLocation). d.label) nat_cmp ds (map location_of items)) listed
          (stable_located _ items (c.sort_by_key.ensures.stable (λ x. x.0) keys));
    }
