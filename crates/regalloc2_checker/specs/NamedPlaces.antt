-- The places that an output and the clobbers name.
use Rattle.std.specs.Prelude.{ℕ, List, [], ◌∷◌, ◌++◌, map, if◌then◌else◌}
use Rattle.std.specs.List.{flat_map}
use Rattle.regalloc2_names.specs.Place.{Place, InRegister, is_no_place}
use Rattle.regalloc2_names.specs.PlaceBits.{bits_of_place}
use Rattle.regalloc2_names.specs.Register.{registers_of}
use Rattle.regalloc2_function.specs.FunctionValue.{FunctionValue, InstValue}
use Rattle.regalloc2_function.specs.OutputValue.{OutputValue, MoveValue}

-- the two places of a move
abbrev pub places_of : MoveValue → List Place
places_of m = m.from ∷ m.to ∷ []

-- the registers that an instruction clobbers
abbrev pub clobbered_places : InstValue → List Place
clobbered_places inst = map InRegister (registers_of inst.clobbers)

-- the places that an output's moves and operands name, and the clobbered registers, as often as they are named
abbrev pub named_places : FunctionValue → OutputValue → List Place
named_places f o = flat_map (λ e. places_of e.1) o.edits ++ (o.allocs ++ flat_map clobbered_places f.insts)

-- the bits of a place, unless it is missing
abbrev pub bits_unless_missing : Place → List ℕ
bits_unless_missing p = if is_no_place p then [] else (bits_of_place p ∷ [])
