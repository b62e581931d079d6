-- One instruction, as a backward walk allocates it: which vreg each number stands for, and what a listing carries.
use Rattle.std.specs.Prelude.{ℕ, ◌≡◌, ◌<◌, true, List, length}
use Rattle.regalloc2_names.specs.Register.{Register, VirtualRegister}
use Rattle.regalloc2_names.specs.Operand.{OperandValue, is_def, is_reading}
use Rattle.regalloc2_names.specs.Place.{Place, InRegister, InSlot}
use Rattle.regalloc2_carry.specs.Listing.{Item}
use Rattle.regalloc2_carry.specs.Carry.{Carries}
use Rattle.regalloc2_function.specs.FunctionValue.{op_at}

-- T: the current location of the vreg with a number; S: its slot
pub record IsTidy (T S : ℕ → Place) : Type 0 where
  pub apart : (m n : ℕ) (r : Register) → T m ≡ InRegister r → T n ≡ InRegister r → m ≡ n
  pub own_slot : (n k : ℕ) → T n ≡ InSlot k → S n ≡ InSlot k
  pub no_register : (n : ℕ) (r : Register) → S n ≡ InRegister r → ⊥
  pub one_owner : (m n k : ℕ) → S m ≡ InSlot k → S n ≡ InSlot k → m ≡ n

-- a listing carries each tracked vreg from the places that its number needs
abbrev pub Claims : (VirtualRegister → Type 0) → List Item → (ℕ → Place → Type 0) → (VirtualRegister → Place → Type 0) → Type 0
Claims IsTracked items N E = (v : VirtualRegister) → IsTracked v → Carries v items (N v.number) (E v)

-- the tracked vregs have one vreg for a number, and include the vregs of the operands
pub record Knows (IsTracked : VirtualRegister → Type 0) (operands : List OperandValue) : Type 0 where
  pub same : (v w : VirtualRegister) → IsTracked v → IsTracked w → v.number ≡ w.number → v ≡ w
  pub definition : (j : ℕ) → j < length operands → is_def (op_at operands j).kind ≡ true → IsTracked (op_at operands j).vreg
  pub reading : (j : ℕ) → j < length operands → is_reading (op_at operands j) ≡ true → IsTracked (op_at operands j).vreg
