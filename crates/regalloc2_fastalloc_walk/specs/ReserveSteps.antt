-- What one operand reserves before operands are allocated.
use Rattle.std.specs.Prelude.{ℕ, ◌≡◌, ◌<◌, ◌≤◌, ◌⊎◌, ◌&&◌, ◌||◌, ◌↔◌, true, false, All, List, [], ◌∷◌, length}
use Rattle.regalloc2_names.specs.declared.RegClass.{RegClass}
use Rattle.regalloc2_names.specs.declared.OperandConstraint.TheVariants.{FixedReg}
use Rattle.regalloc2_names.specs.Register.{Register, is_register, has_register}
use Rattle.regalloc2_names.specs.Operand.{OperandValue}
use Rattle.regalloc2_fastalloc_state.specs.declared.positions.Positions.{Positions}
use Rattle.regalloc2_fastalloc_state.specs.declared.inst_regs.InstRegs.{InstRegs}
use Rattle.regalloc2_fastalloc_state.specs.InstRegs.{SameAvailable, awaited_of, is_free_throughout}
use Rattle.regalloc2_fastalloc_state.specs.Masks.{AreMasks, max_masked}
use Rattle.regalloc2_fastalloc_state.specs.Validate.NoLimits.{IsTakenOperand}
use Rattle.regalloc2_function.specs.FunctionValue.{op_at}
use Rattle.regalloc2_fastalloc_walk.specs.declared.reserve_regs.ReservedRegs.{ReservedRegs}
use Rattle.regalloc2_fastalloc_walk.specs.declared.reserve_regs.Sorted.{Sorted}
use Rattle.regalloc2_fastalloc_proofs.specs.InstSteps.{StateValue, NeedsFixedReg, IsFixedIn, ReservesRegs, needing_reg}

-- one of the machine's registers or fixed stack slots
abbrev pub IsMachineReg : StateValue → Register → Type 0
IsMachineReg t r = (has_register t.allocatable r ≡ true) ⊎ (has_register t.fixed_stack r ≡ true)

-- registers may be taken at the two positions, and none is given back; moves from stack to stack go where they went
pub record Shrinks (t u : InstRegs) : Type 0 where
  pub early : (r : Register) → has_register u.early r ≡ true → has_register t.early r ≡ true
  pub late : (r : Register) → has_register u.late r ≡ true → has_register t.late r ≡ true
  pub scratch : u.scratch ≡ t.scratch

-- no register but `by` is taken
pub record TakesOnly (by : Register) (t u : InstRegs) : Type 0 where
  pub early : (r : Register) → is_register by r ≡ false → has_register u.early r ≡ has_register t.early r
  pub late : (r : Register) → is_register by r ≡ false → has_register u.late r ≡ has_register t.late r

-- each register that is taken now, and was free at both positions, is one that an operand is fixed to
abbrev pub TakesFixed : List OperandValue → InstRegs → InstRegs → Type 0
TakesFixed operands t u = (r : Register) → is_free_throughout t r ≡ true → is_free_throughout u r ≡ false → IsFixedIn operands r

-- where none was counted, all operands that require any register are
abbrev pub AwaitsAll : List OperandValue → InstRegs → InstRegs → Type 0
AwaitsAll operands t u = t.awaited ≡ 0 ∷ 0 ∷ 0 ∷ [] → (class : RegClass) → awaited_of u class ≡ needing_reg operands class

-- claims are kept
pub record KeepsReserved (c d : ReservedRegs) : Type 0 where
  pub early : (r : Register) → has_register c.early r ≡ true → has_register d.early r ≡ true
  pub late : (r : Register) → has_register c.late r ≡ true → has_register d.late r ≡ true

-- no register but `by` is claimed now, and only at the positions `p`
pub record ReservesOnly (c d : ReservedRegs) (by : Register) (p : Positions) : Type 0 where
  pub early : (r : Register) → has_register d.early r ≡ true → (has_register c.early r ≡ true) ⊎ ((r ≡ by) × (p.early ≡ true))
  pub late : (r : Register) → has_register d.late r ≡ true → (has_register c.late r ≡ true) ⊎ ((r ≡ by) × (p.late ≡ true))

-- no register is claimed now but the one that the operand k claims
pub record OperandReserves (operands : List OperandValue) (k : ℕ) (c d : ReservedRegs) : Type 0 where
  pub early : (r : Register) → has_register d.early r ≡ true → (has_register c.early r ≡ true)
      ⊎ ((p : Positions) × NeedsFixedReg operands k r p × (p.early ≡ true))
  pub late : (r : Register) → has_register d.late r ≡ true → (has_register c.late r ≡ true) ⊎ ((p : Positions) × NeedsFixedReg operands k r p × (p.late ≡ true))

-- the register is claimed at one of the positions
abbrev pub IsReservedAt : ReservedRegs → Register → Positions → Type 0
IsReservedAt c r p = ((p.early && has_register c.early r) || (p.late && has_register c.late r)) ≡ true

-- the register is claimed at the positions, where no operand claimed it
pub record IsNewlyReserved (c d : ReservedRegs) (r : Register) (p : Positions) : Type 0 where
  pub fresh_early : p.early ≡ true → has_register c.early r ≡ false
  pub fresh_late : p.late ≡ true → has_register c.late r ≡ false
  pub early : p.early ≡ true → has_register d.early r ≡ true
  pub late : p.late ≡ true → has_register d.late r ≡ true

-- the register is one of the machine's, is claimed, and isn't free at the positions any more
pub record IsReserved (t : StateValue) (r : Register) (p : Positions) (u : InstRegs) (c d : ReservedRegs) : Type 0 where
  pub known : IsMachineReg t r
  pub claimed : IsNewlyReserved c d r p
  pub held_early : p.early ≡ true → has_register u.early r ≡ false
  pub held_late : p.late ≡ true → has_register u.late r ≡ false

-- the operand k reserves what it claims
pub record ReservesRegForOperand (operands : List OperandValue) (k : ℕ) (t u : InstRegs) (c d : ReservedRegs) (old : StateValue) : Type 0 where
  pub shrinks : Shrinks t u
  pub grows : KeepsReserved c d
  pub takes : TakesFixed operands t u
  pub claims : OperandReserves operands k c d
  pub reserved : (r : Register) (p : Positions) → NeedsFixedReg operands k r p → IsReserved old r p u c d

-- the operand k claims a register that isn't the machine's, or that is claimed at a position of its own
pub record RegIsNotReserved (operands : List OperandValue) (k : ℕ) (c : ReservedRegs) (old : StateValue) : Type 0 where
  pub register : Register
  pub positions : Positions
  pub claims : NeedsFixedReg operands k register positions
  pub stops : ((has_register old.allocatable register || has_register old.fixed_stack register) ≡ false) ⊎ IsReservedAt c register positions

-- the operands' registers are reserved, whatever is counted beside
abbrev pub ReservesClaims : List OperandValue → InstRegs → InstRegs → StateValue → Type 0
ReservesClaims operands t u old = (began : InstRegs) → SameAvailable began t → AwaitsAll operands began u → ReservesRegs operands began u old

-- what one pass over operands finds
pub record AreSorted (operands : List OperandValue) (s : Sorted) : Type 0 where
  pub masks : length operands ≤ max_masked → AreMasks operands s.masks
  pub some : s.any_fixed ≡ true → (k : ℕ) × (r : Register) × (k < length operands) × ((op_at operands k).constraint ≡ FixedReg r)
  pub none : s.any_fixed ≡ false → (k : ℕ) → k < length operands → (r : Register) → (op_at operands k).constraint ≡ FixedReg r → ⊥
  pub unlimited : (s.unlimited ≡ true) ↔ All IsTakenOperand operands
