-- Which form a place has.
use Rattle.std.proofs.Common.{Bool, true, false, ◌≡◌, refl, ap}
use Rattle.std.specs.Prelude.{Some, IsTrue}
use Rattle.regalloc2_names.specs.Register.{Register}
use Rattle.regalloc2_names.specs.Place.{Place, NoPlace, InRegister, InSlot, register_of_place, is_no_place}

-- the place that a register is read from
pub place_of_register : (p : Place) (r : Register) → register_of_place p ≡ Some r → p ≡ InRegister r
place_of_register NoPlace r e = absurd cc
place_of_register (InRegister q) r e = let same : q ≡ r = cc in ap InRegister same
place_of_register (InSlot n) r e = absurd cc

-- tests of whether there is a place
pub NoPlace-from_test : (p : Place) → is_no_place p ≡ true → p ≡ NoPlace
NoPlace-from_test NoPlace h = refl
NoPlace-from_test (InRegister r) h = absurd cc
NoPlace-from_test (InSlot n) h = absurd cc

-- if a test holds of every place but none, and fails, the place is none
pub NoPlace-from_failed_test : (p : Place) (b : Bool) → (is_no_place p ≡ false → IsTrue b) → b ≡ false → p ≡ NoPlace
NoPlace-from_failed_test NoPlace b h e = refl
NoPlace-from_failed_test (InRegister r) b h e = let t : b ≡ true = h refl in absurd cc
NoPlace-from_failed_test (InSlot n) b h e = let t : b ≡ true = h refl in absurd cc

-- no place is both none and, by the test, not none
pub NoPlace-not_false : (p : Place) → p ≡ NoPlace → is_no_place p ≡ false → ⊥
NoPlace-not_false p e h = let t : is_no_place p ≡ true = ap is_no_place e in cc

-- two names of one register's place
pub same_register : (q r : Register) → InRegister q ≡ InRegister r → q ≡ r
same_register q r e = cc
