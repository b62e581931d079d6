-- What the tests of machine and slots decide.
use Rattle.std.proofs.Common.{ℕ, ◌≡◌, ◌≢◌, Bool, List, Result, Ok, Err, refl, sym, subst, inl}
use Rattle.std.specs.Prelude.{◌↔◌, Contains, OnOk}
use Rattle.regalloc2_function.specs.FunctionValue.{FunctionValue}
use Rattle.regalloc2_function.specs.Machine.{MachineValue}
use Rattle.regalloc2_function.specs.OutputValue.{OutputValue}
use Rattle.regalloc2_semantics.specs.Places.{IsValidPlace}
use Rattle.regalloc2_names.specs.declared.RegClass.{RegClass}
use Rattle.regalloc2_names.specs.declared.RegClass.TheVariants.{Int, Float, Vector}
use Rattle.regalloc2_names.specs.Place.{Place, NoPlace, InRegister, InSlot}
use Rattle.regalloc2_checker.specs.CellRegisters.{IsAllocatablePlace}
use Rattle.regalloc2_checker.specs.Cells.{AreCells, ArePlacesOfMachine, IsSlotTaken, IsInFrame, AreUnitsApart}
use Rattle.regalloc2_checker.specs.CellFaults.{IsCellFault, IsSlotFault, AreAllApart}
use Rattle.regalloc2_checker.specs.declared.cells.CellFault.{CellFault}
use Rattle.regalloc2_checker.specs.declared.cells.CellFault.TheVariants.{Operand, MoveEnd, OtherClass, Location, Slot, Shared, Memory}

-- a register that may be allocated to a class may hold a value of it
pub allocatable_is_proper : (env : MachineValue) (out : OutputValue) (class : RegClass) (p : Place) → IsAllocatablePlace env class p →
    IsValidPlace env out class p
allocatable_is_proper env out class NoPlace h = h
allocatable_is_proper env out class (InRegister r) h = inl h
allocatable_is_proper env out class (InSlot n) h = absurd h

pub both_ok : {T E P Q S : Type 0} (r : Result T E) → (P → Q → S) → OnOk r P → OnOk r Q → OnOk r S
both_ok (Ok v) to p q = to p q
both_ok (Err e) to p q = tt

-- a list has exactly the slots that an output names
abbrev pub AreSlotsNamed : FunctionValue → OutputValue → List (ℕ × ℕ) → Type 0
AreSlotsNamed f out xs = (n u : ℕ) → Contains xs (n, u) ↔ IsSlotTaken f out n u

pub named_same : (f : FunctionValue) (out : OutputValue) (xs ys : List (ℕ × ℕ)) → xs ≡ ys → AreSlotsNamed f out ys → AreSlotsNamed f out xs
named_same f out xs ys same h = subst (λ (l : List (ℕ × ℕ)). AreSlotsNamed f out l) (sym same) h

-- where none is wrong, places are cells
pub cells_of : (f : FunctionValue) (env : MachineValue) (out : OutputValue) (b : Bool) (xs : List (ℕ × ℕ)) → b ≡ f.named_by_last_slot → AreSlotsNamed f out xs →
    ArePlacesOfMachine f env out → ((n u : ℕ) → Contains xs (n, u) → IsInFrame b out.num_spillslots n u) → AreAllApart b xs → AreCells f env out
cells_of f env out b xs last named places frame apart = record {
  places = places;
  frame = λ n u t. subst (λ (x : Bool). IsInFrame x out.num_spillslots n u) last (frame n u ((named n u).1 t));
  apart = λ m u n w less s t. subst (λ (x : Bool). AreUnitsApart x m u n w) last (apart m u n w less ((named m u).1 s) ((named n w).1 t));
}

-- what is wrong with the list's slots is wrong with the output's slots
pub fault_of : (f : FunctionValue) (env : MachineValue) (out : OutputValue) (b : Bool) (xs : List (ℕ × ℕ)) → b ≡ f.named_by_last_slot → AreSlotsNamed f out xs →
    (e : CellFault) → IsSlotFault b out.num_spillslots xs e → IsCellFault f env out e
fault_of f env out b xs last named (Operand i k) h = absurd h
fault_of f env out b xs last named (MoveEnd k) h = absurd h
fault_of f env out b xs last named (OtherClass k) h = absurd h
fault_of f env out b xs last named (Location k) h = absurd h
fault_of f env out b xs last named (Slot n) h =
    (h.0, (named n h.0).0 h.1, subst (λ (x : Bool). IsInFrame x out.num_spillslots n h.0 → ⊥) last h.2)
fault_of f env out b xs last named (Shared m n) h =
    (h.0, h.1, h.2, (named m h.0).0 h.3, (named n h.1).0 h.4, subst (λ (x : Bool). AreUnitsApart x m h.0 n h.1 → ⊥) last h.5)
fault_of f env out b xs last named Memory h = tt

-- where an error is found, places aren't cells
pub no_cells : (f : FunctionValue) (env : MachineValue) (out : OutputValue) (e : CellFault) → e ≢ Memory → IsCellFault f env out e → AreCells f env out → ⊥
no_cells f env out (Operand i k) differ h cells = h.2 (cells.places.operands i h.0 k h.1)
no_cells f env out (MoveEnd k) differ h cells = h.1 (cells.places.moves k h.0)
no_cells f env out (OtherClass k) differ h cells = h.1 (cells.places.classes k h.0)
no_cells f env out (Location k) differ h cells = (let p = cells.places.locations k h.0 in h.1 p.0 p.1)
no_cells f env out (Slot n) differ h cells = h.2 (cells.frame n h.0 h.1)
no_cells f env out (Shared m n) differ h cells = h.5 (cells.apart m h.0 n h.1 h.2 h.3 h.4)
no_cells f env out Memory differ h cells = differ refl

-- a class that is neither of the first two is the last
pub last_class : (P : RegClass → Type 0) → (P Int → ⊥) → (P Float → ⊥) → (k : RegClass) → P k → P Vector
last_class P no_int no_float Int p = absurd (no_int p)
last_class P no_int no_float Float p = absurd (no_float p)
last_class P no_int no_float Vector p = p
