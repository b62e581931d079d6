-- What stored outputs stand for.
use Rattle.std.specs.Prelude.{ℕ, map, All}
use Rattle.regalloc2_names.specs.Place.{Place, IsPointNumber}
use Rattle.regalloc2_names.specs.PlaceBits.{IsPlaceBits, place_of_bits}
use Rattle.regalloc2_function.specs.OutputValue.{OutputValue, MoveValue, DebugLocation}
use Rattle.regalloc2_function.specs.declared.serialize.StoredOutput.{StoredOutput}

-- the numbers of a move name a point and two places
abbrev pub NamesMove : (ℕ × ℕ × ℕ) → Type 0
NamesMove e = IsPointNumber e.0 × IsPlaceBits e.1 × IsPlaceBits e.2

-- the numbers of a debug location, a label first, name two points and a place
abbrev pub NamesLocation : (ℕ × ℕ × ℕ × ℕ) → Type 0
NamesLocation d = IsPointNumber d.1 × IsPointNumber d.2 × IsPlaceBits d.3

-- each number that should be a name is one
abbrev pub NamesValues : {A : Type 0} → StoredOutput A → Type 0
NamesValues s = All NamesMove s.edits.items × All IsPlaceBits s.allocs.items × All NamesLocation s.debug_locations.items

-- the move of its numbers, with its point
abbrev pub stored_move : (ℕ × ℕ × ℕ) → (ℕ × MoveValue)
stored_move e = (e.0, record { from = place_of_bits e.1; to = place_of_bits e.2 })

-- the debug location of its numbers, and that of an output
abbrev pub stored_location : (ℕ × ℕ × ℕ × ℕ) → DebugLocation
stored_location d = record { label = d.0; start = d.1; end = d.2; place = place_of_bits d.3 }

abbrev pub location_of : (ℕ × ℕ × ℕ × Place) → DebugLocation
location_of d = record { label = d.0; start = d.1; end = d.2; place = d.3 }

-- the output of stored numbers
abbrev pub output_of_stored : {A : Type 0} → StoredOutput A → OutputValue
output_of_stored s = record {
  num_spillslots = s.num_spillslots;
  edits = map stored_move s.edits.items;
  allocs = map place_of_bits s.allocs.items;
  offsets = s.inst_alloc_offsets.items;
  debug_locations = map stored_location s.debug_locations.items;
}
