-- What a reader may ask of debug locations beside valid places of operands and moves: where an output lists locations
-- as `labels` of `IsAllocation` says, each has a valid place, and is that of a kept label of its number.
use Rattle.std.proofs.Common.{suc, ◌≡◌, List, ◌∷◌, refl, sym, arith}
use Rattle.std.specs.Prelude.{All, Any as SomeIn}
use Rattle.std.proofs.lemmas.List.Elements.{All-cons}
use Rattle.std.proofs.lemmas.List.Sorted.{All-permutation}
use Rattle.regalloc2_function.specs.FunctionValue.{FunctionValue, Label}
use Rattle.regalloc2_function.specs.Machine.{MachineValue}
use Rattle.regalloc2_function.specs.OutputValue.{OutputValue, DebugLocation}
use Rattle.regalloc2_semantics.specs.Debug.{AreLocationsOf, AreDebugLocations, IsKept}
use Rattle.regalloc2_semantics.specs.Debug.AreLocationsOf.{none, kept, left_out}
use Rattle.regalloc2_semantics.specs.Places.{IsValidPlace}

module _ (f : FunctionValue) (env : MachineValue) (out : OutputValue) where
  -- the place is valid for the label's vreg
  abbrev IsProperFor : Label → DebugLocation → Type 0
  IsProperFor l d = IsValidPlace env out l.vreg.class d.place

  -- one of the labels is kept, and has the location's number and points
  abbrev IsOfSome : List Label → DebugLocation → Type 0
  IsOfSome ls d = SomeIn (λ l. (l.label ≡ d.label) × IsKept f l d.start d.end × IsProperFor l d) ls

  of_more : (l : Label) (ls : List Label) (d : DebugLocation) → IsOfSome ls d → IsOfSome (l ∷ ls) d
  of_more l ls d h = (suc h.0, h.1, omega (arith, h.2), h.3, h.4)

  all_of_more : (l : Label) (ls : List Label) (ds : List DebugLocation) → All (IsOfSome ls) ds → All (IsOfSome (l ∷ ls)) ds
  all_of_more l ls ds h k d less = of_more l ls _ (h k d less)

  each : {ls : List Label} {ds : List DebugLocation} → AreLocationsOf f IsProperFor ls ds → All (IsOfSome ls) ds
  each none = λ k d less. absurd (omega (arith, less))
  each (kept {ls} {ds} l d same is asked rest) = All-cons (IsOfSome (l ∷ ls)) d ds (0, l, omega arith, refl, (sym same, is, asked))
      (all_of_more l ls ds (each rest))
  each (left_out {ls} {ds} l absent rest) = all_of_more l ls ds (each rest)

  pub locations_are_proper : AreDebugLocations f IsProperFor out → All (IsOfSome f.labels) out.debug_locations
  locations_are_proper a = All-permutation (IsOfSome f.labels) a.listed out.debug_locations a.same (each a.kept)
