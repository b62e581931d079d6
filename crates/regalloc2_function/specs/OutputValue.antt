-- The allocator's output, as contracts see it.
-- Its parts are the fields of upstream's `Output`.
use Rattle.std.specs.Prelude.{ℕ, ◌≡◌, ◌≢◌, ◌+◌, ◌≤◌, ◌<◌, Bool, ◌&&◌, ◌||◌, nat_eq, nat_lt, if◌then◌else◌, List, length, slice_index, slice_index_or}
use Rattle.std.specs.Prelude.{slice_range, All}
use Rattle.std.specs.List.Sorted.{IsNonDecreasingBy}
use Rattle.regalloc2_names.specs.Place.{Place, NoPlace, before}
use Rattle.regalloc2_function.specs.FunctionValue.{FunctionValue, inst_at}

-- a move from a place to another
pub record MoveValue : Type 0 where
  pub from : Place
  pub to : Place

-- the place of a labelled value, from a point up to a point
pub record DebugLocation : Type 0 where
  pub label : ℕ
  pub start : ℕ
  pub end : ℕ
  pub place : Place

-- the output: moves by their points, the places of all operands, and where the places of each instruction begin
pub record OutputValue : Type 0 where
  pub num_spillslots : ℕ
  pub edits : List (ℕ × MoveValue)
  pub allocs : List Place
  pub offsets : List ℕ
  pub debug_locations : List DebugLocation

-- the offset at which the places of an instruction end
abbrev pub alloc_end : OutputValue → ℕ → ℕ
alloc_end o i = if nat_eq (i + 1) (length o.offsets) then length o.allocs else slice_index o.offsets (i + 1)

-- the places of an instruction's operands, in operand order
abbrev pub allocs_of : OutputValue → ℕ → List Place
allocs_of o i = slice_range o.allocs (slice_index o.offsets i) (alloc_end o i)

-- the place of an operand; it is missing where there is none
abbrev pub place_at : List Place → ℕ → Place
place_at places k = slice_index_or places k NoPlace

-- whether an edit is listed before an instruction of a block that begins at first
abbrev pub is_listed_at : ℕ → ℕ → ℕ → Bool
is_listed_at first i point = nat_eq point (before i) || (nat_lt first i && nat_eq (point + 1) (before i))

-- the offsets are in order: the first is 0, none is below the one before, and none is past the places
pub record OffsetsInOrder (o : OutputValue) : Type 0 where
  pub begins : 0 < length o.offsets → slice_index o.offsets 0 ≡ 0
  pub rises : (i : ℕ) → i < length o.offsets → slice_index o.offsets i ≤ alloc_end o i
  pub within : (i : ℕ) → i < length o.offsets → slice_index o.offsets i ≤ length o.allocs

-- the output is well-ordered (`is_in_order`)
pub record IsInOrder (f : FunctionValue) (o : OutputValue) : Type 0 where
  pub one_offset_each : length o.offsets ≡ length f.insts
  pub offsets : OffsetsInOrder o
  pub no_more_than_operands : (i : ℕ) → i < length f.insts → alloc_end o i ≤ slice_index o.offsets i + length (inst_at f i).operands
  pub points_never_fall : IsNonDecreasingBy (λ e. e.0) o.edits
  pub moves_name_places : All (λ e. (e.1.from ≢ NoPlace) × (e.1.to ≢ NoPlace)) o.edits
