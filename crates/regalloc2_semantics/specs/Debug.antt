-- Debug points and labels: from where to where a vreg's value can be shown, the debug locations that an output has to give, and the place
-- that holds a labelled vreg's value at each step of a path.
-- The points are as in upstream's `vreg_to_live_inst_range`; the definition of holding the value is this project's own.
-- `run` guarantees `AreDebugLocations`, with valid places (`IsValidPlace`) of the labels' vregs; they hold their vregs' values if no path from
-- the entry reads or passes a vreg before writing it (the field `labels` of `IsAllocation`).
use Rattle.std.specs.Prelude.{ℕ, ◌≡◌, ◌+◌, ◌/◌, ◌<◌, ◌≤◌, ◌⊎◌, List, [], ◌∷◌, length, Contains, IsPermutation, false, Some}
use Rattle.std.specs.Ordering.{nat_cmp}
use Rattle.std.specs.List.Sorted.{IsNonDecreasingBy, IsStableByKey}
use Rattle.regalloc2_names.specs.declared.OperandPos.TheVariants.{Early, Late}
use Rattle.regalloc2_names.specs.Register.{VirtualRegister}
use Rattle.regalloc2_names.specs.Place.{before, after, Place}
use Rattle.regalloc2_function.specs.FunctionValue.{FunctionValue, Label, block_at, inst_at}
use Rattle.regalloc2_function.specs.OutputValue.{OutputValue, DebugLocation}
use Rattle.regalloc2_semantics.specs.Runs.{Way, end_of, IsPath, Stamp, source_before, after_moves, moves_at, cells_before}
use Rattle.regalloc2_semantics.specs.Live.{DefinesAt, ReadsAt, PassesAt, IsGiven}

-- the instruction i reads or passes v
abbrev pub UsesAt : FunctionValue → VirtualRegister → ℕ → Type 0
UsesAt f v i = ReadsAt f v Early i ⊎ ReadsAt f v Late i ⊎ ((b : ℕ) × PassesAt f v (record { block = b; inst = i }))

-- the last instruction that reads or passes v
abbrev pub IsLastUse : FunctionValue → VirtualRegister → ℕ → Type 0
IsLastUse f v i = UsesAt f v i × ((j : ℕ) → UsesAt f v j → j ≤ i)

-- v's first point: after its definition, or before the block of which it is a parameter
pub data IsFirstPoint (f : FunctionValue) (v : VirtualRegister) : ℕ → Type 0 where
  of_definition : (i : ℕ) → DefinesAt f v i → IsFirstPoint f v (after i)
  of_parameter : (b : ℕ) → b < length f.blocks → Contains (block_at f b).params v → IsFirstPoint f v (before (block_at f b).range.first)

-- v's last point: past its last use if that is late, after it if it is early, else before it; an unread definition ends before the next
-- instruction, and an unread parameter has no points
pub data IsLastPoint (f : FunctionValue) (v : VirtualRegister) : ℕ → Type 0 where
  of_late_use : (i : ℕ) → IsLastUse f v i → ReadsAt f v Late i → IsLastPoint f v (before (i + 1))
  of_early_use : (i : ℕ) → IsLastUse f v i → (ReadsAt f v Late i → ⊥) → ReadsAt f v Early i → IsLastPoint f v (after i)
  of_argument : (i : ℕ) → IsLastUse f v i → (ReadsAt f v Late i → ⊥) → (ReadsAt f v Early i → ⊥) → IsLastPoint f v (before i)
  of_definition : (i : ℕ) → DefinesAt f v i → ((j : ℕ) → UsesAt f v j → ⊥) → IsLastPoint f v (before (i + 1))

-- a label is kept with its vreg's points where it starts at or after the first one's instruction and ends at most one past the last one's
abbrev pub IsKept : FunctionValue → Label → ℕ → ℕ → Type 0
IsKept f l start end = IsFirstPoint f l.vreg start × IsLastPoint f l.vreg end × (start / 2 ≤ l.start) × (l.end ≤ end / 2 + 1)

-- the debug locations of a list of labels, as listed, each with what is required of it and its label
pub data AreLocationsOf (f : FunctionValue) (Asked : Label → DebugLocation → Type 0) : List Label → List DebugLocation → Type 0 where
  none : AreLocationsOf f Asked [] []
  kept : {ls : List Label} {ds : List DebugLocation} (l : Label) (d : DebugLocation) → d.label ≡ l.label → IsKept f l d.start d.end → Asked l d →
      AreLocationsOf f Asked ls ds → AreLocationsOf f Asked (l ∷ ls) (d ∷ ds)
  left_out : {ls : List Label} {ds : List DebugLocation} (l : Label) → ((start end : ℕ) → IsKept f l start end → ⊥) → AreLocationsOf f Asked ls ds →
      AreLocationsOf f Asked (l ∷ ls) ds

-- the debug locations of an output are the locations of the function's labels, by rising label, and as listed where labels are equal
pub record AreDebugLocations (f : FunctionValue) (Asked : Label → DebugLocation → Type 0) (out : OutputValue) : Type 0 where
  pub listed : List DebugLocation
  pub kept : AreLocationsOf f Asked f.labels listed
  pub same : IsPermutation listed out.debug_locations
  pub rising : IsNonDecreasingBy (λ d. d.label) out.debug_locations
  pub stable : IsStableByKey (λ d. d.label) nat_cmp listed out.debug_locations

-- a path that extends another one, and does not write v in between
pub data GoesOn (f : FunctionValue) (v : VirtualRegister) (start : List Way) : List Way → Type 0 where
  there : GoesOn f v start start
  further : (w : Way) (ws : List Way) → GoesOn f v start ws → (IsGiven f v (end_of f ws) w → ⊥) → GoesOn f v start (w ∷ ws)

-- If a path writes v, and then not again up to a later step that reads or passes v, the place holds that write at each step in between and at the later step,
-- once the moves before the step's instruction have run. Steps at a branch are left out.
abbrev pub ShowsValue : FunctionValue → OutputValue → VirtualRegister → Place → Type 0
ShowsValue f out v p = (given : List Way) (w : Way) (here used : List Way) (s : Stamp) →
    IsPath f used → IsGiven f v (end_of f given) w → source_before f (w ∷ given) v ≡ Some s → GoesOn f v (w ∷ given) here → GoesOn f v here used →
    UsesAt f v (end_of f used).inst →
    (inst_at f (end_of f here).inst).is_branch ≡ false → after_moves (moves_at f out (end_of f here)) (cells_before f out here) p ≡ Some s
