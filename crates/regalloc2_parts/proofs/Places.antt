-- What one move changes, and places that are one or not, passed on from the names.
use Rattle.std.proofs.Common.{◌≡◌, ◌≢◌, sym, ap, ◌∙◌, cond}
use Rattle.regalloc2_names.specs.Place.{Place, InRegister, NoPlace}
use Rattle.regalloc2_names.specs.PlaceBits.{place_of_bits, bits_of_place}
use Rattle.regalloc2_names.proofs.EqualNames.{is_place-along, is_place-other}
use Rattle.regalloc2_parts.specs.AtOnce.{Ends, CellsOf, moved, IsPlace}
use Rattle.regalloc2_parts.specs.Giving.{place_before}
use Rattle.regalloc2_names.specs.Register.{Register}
use Rattle.regalloc2_parts.specs.declared.moves.MoveFault.TheVariants.{Memory, NoSlot}
pub use Rattle.regalloc2_names.proofs.EqualNames.{cases_place}

-- what a move's destination has after it was in the move's source before it
pub before_hit : (m : Ends) (p : Place) → m.to ≡ p → place_before m p ≡ m.from
before_hit m p e = ap (λ b. cond b m.from p) (is_place-along m.to p e)

-- what any place but a move's destination has after it was there before it
pub before_miss : (m : Ends) (p : Place) → m.to ≢ p → place_before m p ≡ p
before_miss m p n = ap (λ b. cond b m.from p) (is_place-other m.to p n)

-- after a write to p, the place p has what was written
pub moved_here : {X : Type 0} (c : CellsOf X) (p q : Place) (x : X) → p ≡ q → moved c p x q ≡ x
moved_here c p q x e = ap (λ b. cond b x (c q)) (is_place-along p q e)

-- a write to p leaves every other place
pub moved_other : {X : Type 0} (c : CellsOf X) (p q : Place) (x : X) → p ≢ q → moved c p x q ≡ c q
moved_other c p q x n = ap (λ b. cond b x (c q)) (is_place-other p q n)

-- a word stands for one place
pub same_word : (p q : Place) → IsPlace p → IsPlace q → bits_of_place p ≡ bits_of_place q → p ≡ q
same_word p q hp hq e = sym hp ∙ ap place_of_bits e ∙ hq

-- a register is a place
pub register_is_a_place : {r : Register} → InRegister r ≢ NoPlace
register_is_a_place {r = r} e = (let no : InRegister r ≡ NoPlace = e in cc)

-- the error of memory isn't the error of a missing slot
pub memory_is_no_slot : Memory ≡ NoSlot → ⊥
memory_is_no_slot e = (let no : Memory ≡ NoSlot = e in cc)
