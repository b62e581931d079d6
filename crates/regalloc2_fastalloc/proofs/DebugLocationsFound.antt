-- The places of live ranges are found, and sorted lists stay sorted where they are seen as debug locations.
use Rattle.std.proofs.Common.{ℕ, ◌≡◌, ◌<◌, ◌≤◌, Bool, true, false, cond, List, [], ◌∷◌, length, map, refl, sym, ap, ◌∙◌, subst, arith, slice_index}
use Rattle.std.proofs.Common.{slice_index_or}
use Rattle.std.specs.Prelude.{MatchOption, Option, Some}
use Rattle.std.specs.List.{filter}
use Rattle.std.specs.List.Sorted.{IsNonDecreasingBy, IsStableByKey, ties}
use Rattle.std.specs.Ordering.{is_lt, nat_cmp}
use Rattle.std.proofs.lemmas.List.{get_or-map, length-map}
use Rattle.std.proofs.lemmas.List.Sums.{sum_by_more_le}
use Rattle.regalloc2_names.specs.Place.{Place}
use Rattle.regalloc2_names.specs.Register.{VirtualRegister}
use Rattle.regalloc2_function.specs.FunctionValue.{FunctionValue, Label, inst_at, no_inst, operand_count, op_at}
use Rattle.regalloc2_function.specs.OutputValue.{DebugLocation}
use Rattle.regalloc2_function.specs.Stored.{location_of}
use Rattle.regalloc2_semantics.specs.Runs.{Location}
use Rattle.regalloc2_semantics.specs.Live.{PassesAt}
use Rattle.regalloc2_semantics.specs.Debug.{IsFirstPoint}
use Rattle.regalloc2_semantics.specs.Debug.IsFirstPoint.{of_definition, of_parameter}
use Rattle.regalloc2_carry.proofs.SingleDef.{Made}
use Rattle.regalloc2_fastalloc_state.specs.StateParts.{SpillSlotsValue}
use Rattle.regalloc2_analysis.specs.declared.live_ranges.InstOperand.{InstOperand}
use Rattle.regalloc2_analysis.specs.declared.live_ranges.KeptLabel.{KeptLabel}
use Rattle.regalloc2_analysis.specs.LiveRanges.LiveRanges.{IsKeptRange, IsSSA, IsShownBy}
use Rattle.regalloc2_analysis.proofs.LiveRangesLemmas.UsesInSSA.{made_by_definition, made_by_parameter}
use Rattle.regalloc2_analysis.proofs.LiveRangesLemmas.FirstAndLastPoints.{shown_within}
use Rattle.regalloc2_fastalloc_proofs.specs.BlockSteps.{DefinesBelow, offset_of}
use Rattle.regalloc2_fastalloc_proofs.proofs.Safety.StateKept.{made_below}
use Rattle.regalloc2_fastalloc.specs.DebugLocations.{HasPlace}

-- a debug location's parts, and the test by which two of them are sorted
abbrev pub LocationParts : Type 0
LocationParts = ℕ × ℕ × ℕ × Place

abbrev parts_of : DebugLocation → LocationParts
parts_of d = (d.label, d.start, d.end, d.place)

abbrev tie_with : ℕ → ℕ → Bool
tie_with m n = ties (λ (x y : ℕ). is_lt (nat_cmp x y)) m n

located_if : (b : Bool) (x : LocationParts) (xs : List LocationParts) (ds : List DebugLocation) → ds ≡ map location_of xs →
    cond b (location_of x ∷ ds) ds ≡ map location_of (cond b (x ∷ xs) xs)
located_if true x xs ds same = ap (λ (es : List DebugLocation). location_of x ∷ es) same
located_if false x xs ds same = same

filter_located : (m : ℕ) (xs : List LocationParts) → filter (λ (d : DebugLocation). tie_with m d.label) (map location_of xs) ≡ map location_of
    (filter (λ (x : LocationParts). tie_with m x.0) xs)
filter_located m [] = refl
filter_located m (x ∷ xs) = located_if (tie_with m x.0) x (filter (λ (y : LocationParts). tie_with m y.0) xs)
    (filter (λ (d : DebugLocation). tie_with m d.label) (map location_of xs)) (filter_located m xs)

-- a stable sort by label stays one where its items are seen as debug locations
pub stable_located : (xs ys : List LocationParts) → IsStableByKey (λ (x : LocationParts). x.0) nat_cmp xs ys →
    IsStableByKey (λ (d : DebugLocation). d.label) nat_cmp (map location_of xs) (map location_of ys)
stable_located xs ys stable d = filter_located d.label ys ∙ ap (map location_of) (stable (parts_of d)) ∙ sym (filter_located d.label xs)

-- a list that is sorted by label stays so where its items are seen as debug locations
pub rising_located : (xs : List LocationParts) → IsNonDecreasingBy (λ (x : LocationParts). x.0) xs → IsNonDecreasingBy (λ (d : DebugLocation). d.label) (map location_of xs)
rising_located xs up i j d le lt =
    let same = length-map xs location_of in
    let small : j < length xs = omega (arith, lt, same) in
    let a : (slice_index_or (map location_of xs) i d).label ≡ (slice_index_or xs i (parts_of d)).0 = ap (λ (x : DebugLocation). x.label)
    (get_or-map location_of xs i (parts_of d) d (omega (arith, le, small))) in
    let b : (slice_index_or (map location_of xs) j d).label ≡ (slice_index_or xs j (parts_of d)).0 = ap (λ (x : DebugLocation). x.label)
    (get_or-map location_of xs j (parts_of d) d small) in
    let h : (slice_index_or xs i (parts_of d)).0 ≤ (slice_index_or xs j (parts_of d)).0 = up i j (parts_of d) le small in
    omega (arith, a, b, h)

-- a vreg that has a first point is made
pub pointed_made : (f : FunctionValue) (v : VirtualRegister) {p : ℕ} → IsFirstPoint f v p → Made f v
pointed_made f v (of_definition i d) = made_by_definition f v i d
pointed_made f v (of_parameter b lt h) = made_by_parameter f v b lt h

-- the operand that shows a vreg is one of the function's
pub operand_within : (f : FunctionValue) (v : VirtualRegister) (by : Option InstOperand) → IsShownBy f v by → (o : InstOperand) → by ≡ Some o →
    (o.inst < length f.insts) × (o.index < length (inst_at f o.inst).operands) × ((op_at (inst_at f o.inst).operands o.index).vreg ≡ v)
operand_within f v by shown o is =
    subst (λ (b : Option InstOperand). MatchOption b ((l : Location) × PassesAt f v l)
    (λ p. (p.inst < length f.insts) × (p.index < length (inst_at f p.inst).operands) × ((op_at (inst_at f p.inst).operands p.index).vreg ≡ v))) is
    (shown_within f v shown)

module _ (f : FunctionValue) (ssa : IsSSA f) (slots : SpillSlotsValue) (offsets : List ℕ) (allocs : List Place)
    (room : DefinesBelow f (length slots.vreg_spillslots)) (long : length offsets ≡ length f.insts)
    (at : (i : ℕ) → i < length f.insts → slice_index offsets i ≡ offset_of f i) (allocs_long : length allocs ≡ operand_count f) where
  -- what the place of a kept label is found by
  pub has_place : (l : Label) (k : KeptLabel) → IsKeptRange f l k.range → HasPlace slots offsets allocs k.range
  has_place l k range = record {
    vreg =
        let small = made_below f (length slots.vreg_spillslots) room l.vreg (pointed_made f l.vreg range.kept.0) in
        let same = ap (λ (v : VirtualRegister). v.number) range.vreg in
        omega (arith, small, same);
    inst = λ o is. let w = operand_within f l.vreg k.range.by range.by o is in let lt = w.0 in omega (arith, lt, long);
    operand = λ o is.
        let w = operand_within f l.vreg k.range.by range.by o is in
        let less = w.1 in
        let here = at o.inst w.0 in
        let within = sum_by_more_le (λ n. length n.operands) f.insts o.inst no_inst w.0 in
        omega (arith, less, here, within, allocs_long);
  }
