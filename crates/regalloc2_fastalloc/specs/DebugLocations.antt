-- The debug locations of a function, by the places that the walk leaves.
-- regalloc2_analysis/specs/LiveRanges/LiveRanges.antt defines the labels that are kept, and the operand whose place
-- shows a vreg.
use Rattle.std.specs.Prelude.{ℕ, ◌≡◌, ◌+◌, ◌<◌, List, length, map, slice_index, slice_index_or, Option, None, Some, if◌then◌else◌, IsPermutation}
use Rattle.std.specs.Ordering.{nat_cmp}
use Rattle.std.specs.List.Sorted.{IsNonDecreasingBy, IsStableByKey}
use Rattle.regalloc2_names.specs.Place.{Place, NoPlace, is_no_place}
use Rattle.regalloc2_function.specs.FunctionValue.{FunctionValue}
use Rattle.regalloc2_function.specs.OutputValue.{DebugLocation}
use Rattle.regalloc2_fastalloc_state.specs.StateParts.{SpillSlotsValue, slot_name}
use Rattle.regalloc2_analysis.specs.declared.live_ranges.InstOperand.{InstOperand}
use Rattle.regalloc2_analysis.specs.declared.live_ranges.LiveRange.{LiveRange}
use Rattle.regalloc2_analysis.specs.declared.live_ranges.KeptLabel.{KeptLabel}
use Rattle.regalloc2_analysis.specs.LiveRanges.LiveRanges.{AreKeptLabels}

-- the place of an operand, in the list of the places of all operands
abbrev pub operand_place : List ℕ → List Place → InstOperand → Place
operand_place offsets allocs o = slice_index_or allocs (slice_index offsets o.inst + o.index) NoPlace

-- the place of an operand, or none if there is no operand
abbrev pub place_by : List ℕ → List Place → Option InstOperand → Place
place_by offsets allocs None = NoPlace
place_by offsets allocs (Some o) = operand_place offsets allocs o

-- The place that shows a live range's vreg: its slot if it has one, else the place of the operand that the range names.
abbrev pub place_shown : SpillSlotsValue → List ℕ → List Place → LiveRange → Place
place_shown slots offsets allocs r = if is_no_place (slot_name slots r.vreg.number) then place_by offsets allocs r.by else slot_name slots r.vreg.number

-- the debug location of a label that is kept
abbrev pub location_shown : SpillSlotsValue → List ℕ → List Place → KeptLabel → DebugLocation
location_shown slots offsets allocs k = record { label = k.label; start = k.range.first; end = k.range.last; place = place_shown slots offsets allocs k.range }

-- The debug locations of a function: one for each label that is kept, by rising label, and as listed where labels are
-- equal.
pub record AreLocated (f : FunctionValue) (slots : SpillSlotsValue) (offsets : List ℕ) (allocs : List Place) (ds : List DebugLocation) : Type 0 where
  pub kept : List KeptLabel
  pub are : AreKeptLabels f f.labels kept
  pub same : IsPermutation (map (location_shown slots offsets allocs) kept) ds
  pub rising : IsNonDecreasingBy (λ d. d.label) ds
  pub stable : IsStableByKey (λ d. d.label) nat_cmp (map (location_shown slots offsets allocs) kept) ds

-- what is needed to find the place of a live range: its vreg is one of the table, and the operand that it names has a
-- place
pub record HasPlace (slots : SpillSlotsValue) (offsets : List ℕ) (allocs : List Place) (r : LiveRange) : Type 0 where
  pub vreg : r.vreg.number < length slots.vreg_spillslots
  pub inst : (o : InstOperand) → r.by ≡ Some o → o.inst < length offsets
  pub operand : (o : InstOperand) → r.by ≡ Some o → slice_index offsets o.inst + o.index < length allocs
