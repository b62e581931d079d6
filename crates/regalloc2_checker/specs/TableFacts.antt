-- Facts that tables keep: places and vregs are looked up by their bits.
use Rattle.std.specs.Prelude.{ℕ, ◌≢◌, ◌<◌, ◌↔◌, Bool, false, ◌&&◌, nat_eq, nat_lt, List, All, Contains, Option, None, Some, length}
use Rattle.std.specs.List.{position, flat_map}
use Rattle.std.specs.List.Sorted.{IsStrictlyIncreasing}
use Rattle.regalloc2_names.specs.Register.{VirtualRegister}
use Rattle.regalloc2_names.specs.RegisterBits.{bits_of_vreg}
use Rattle.regalloc2_names.specs.Place.{Place, NoPlace, is_place}
use Rattle.regalloc2_names.specs.PlaceBits.{bits_of_place, place_of_bits}
use Rattle.regalloc2_function.specs.FunctionValue.{FunctionValue, block_at, inst_at}
use Rattle.regalloc2_function.specs.OutputValue.{OutputValue}
use Rattle.regalloc2_semantics.specs.Runs.{arguments_at}
use Rattle.regalloc2_checker.specs.Showing.{Showing, shows_now, shows_in}
use Rattle.regalloc2_checker.specs.Facts.{Facts}
use Rattle.regalloc2_checker.specs.NamedPlaces.{named_places, bits_unless_missing}

-- a place that a packed name can have
abbrev pub is_packed : Place → Bool
is_packed p = is_place (place_of_bits (bits_of_place p)) p

-- a vreg that a packed name can have
abbrev pub is_packed_vreg : VirtualRegister → Bool
is_packed_vreg v = nat_lt v.number 1073741824

-- where a place is listed
abbrev pub place_in : List ℕ → Place → Option ℕ
place_in places p = position (λ n. nat_eq n (bits_of_place p)) places

-- where a vreg is listed
abbrev pub vreg_in : List ℕ → VirtualRegister → Option ℕ
vreg_in vregs v = position (λ n. nat_eq n (bits_of_vreg v)) vregs

-- what is held at a position, if there is one
abbrev pub held_at : Option ℕ → (ℕ → ℕ → Bool) → ℕ → Bool
held_at None has y = false
held_at (Some i) has y = has i y

-- the facts of what listed places have at their positions
unfoldable pub facts_in : List ℕ → (ℕ → ℕ → Bool) → Facts
facts_in places has p v = is_packed p && (is_packed_vreg v && held_at (place_in places p) has (bits_of_vreg v))

-- the facts of the current table
abbrev pub facts_now : Showing → Facts
facts_now t = facts_in t.places (shows_now t)

-- the facts of table k
abbrev pub facts_table : Showing → ℕ → Facts
facts_table t k = facts_in t.places (shows_in t k)

-- no missing place is listed
abbrev pub IsMissingUnlisted : List ℕ → Type 0
IsMissingUnlisted places = Contains places 0 → ⊥

-- a place is listed, unless it is missing
abbrev pub IsListed : List ℕ → Place → Type 0
IsListed places p = p ≢ NoPlace → Contains places (bits_of_place p)

-- a vreg is listed
abbrev pub IsListedVReg : List ℕ → VirtualRegister → Type 0
IsListedVReg vregs v = Contains vregs (bits_of_vreg v)

-- a list has the bits of the places that an output and the clobbers name, each once, by rising bits, and no others
pub record AreNamedPlaces (f : FunctionValue) (o : OutputValue) (places : List ℕ) : Type 0 where
  pub rising : IsStrictlyIncreasing places
  pub members : (n : ℕ) → Contains places n ↔ Contains (flat_map bits_unless_missing (named_places f o)) n

-- a list names the vregs of a function's operands, parameters and arguments
pub record AreNamedVRegs (f : FunctionValue) (vregs : List ℕ) : Type 0 where
  pub operands : (i : ℕ) → i < length f.insts → All (λ op. IsListedVReg vregs op.vreg) (inst_at f i).operands
  pub params : (b : ℕ) → b < length f.blocks → All (IsListedVReg vregs) (block_at f b).params
  pub arguments : (b k : ℕ) → b < length f.blocks → k < length (block_at f b).succs → All (IsListedVReg vregs) (arguments_at f b k)

-- tables list all of these
pub record AreNamed (f : FunctionValue) (o : OutputValue) (t : Showing) : Type 0 where
  pub places : AreNamedPlaces f o t.places
  pub vregs : AreNamedVRegs f t.vregs
