-- The registers in which the vregs of a list are located.
use Rattle.std.specs.Prelude.{◌≡◌, true, List, Contains, slice_index_or}
use Rattle.regalloc2_names.specs.Place.{Place, NoPlace, InRegister}
use Rattle.regalloc2_names.specs.Register.{Register, VirtualRegister, has_register}
use Rattle.regalloc2_names.specs.declared.sets.PRegSet.{PRegSet}

-- a set has the registers at which the vregs of a list are located, by a table of locations, and no others
pub record AreRegistersOf (allocs : List Place) (vregs : List VirtualRegister) (set : PRegSet) : Type 0 where
  pub has : (r : Register) (v : VirtualRegister) → Contains vregs v → slice_index_or allocs v.number NoPlace ≡ InRegister r → has_register set r ≡ true
  pub only : (r : Register) → has_register set r ≡ true → (v : VirtualRegister) × Contains vregs v × (slice_index_or allocs v.number NoPlace ≡ InRegister r)
