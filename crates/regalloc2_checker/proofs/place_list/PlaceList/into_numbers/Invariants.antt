use Rattle.std.proofs.Common.{◌≡◌, map, ◌++◌}
use Rattle.std.specs.List.{flat_map}
use Rattle.regalloc2_names.specs.Place.{InRegister}
use Rattle.regalloc2_checker.specs.NamedPlaces.{bits_unless_missing}
use Rattle.regalloc2_checker.proofs.place_list.PlaceList.into_numbers.Given as goal

-- the bits of the registers so far are listed
abbrev pub invariant-loop-reg : goal.invariant-loop-reg
invariant-loop-reg g l = record {
  left : l.yielded ++ l.reg-iterator ≡ l.initial.reg-iterator;
  listed : l.numbers.items ≡ flat_map bits_unless_missing (map InRegister l.yielded);
}
