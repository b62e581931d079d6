-- Registers that are free at both positions of an instruction, and how many of them are needed.
use Rattle.std.specs.Prelude.{ℕ, ◌≡◌, ◌+◌, ◌≤◌, Bool, false, ◌&&◌, not, List, length, slice_index_or}
use Rattle.regalloc2_names.specs.declared.RegClass.{RegClass}
use Rattle.regalloc2_names.specs.Register.{Register, VirtualRegister, is_register, has_register}
use Rattle.regalloc2_names.specs.Operand.{OperandValue}
use Rattle.regalloc2_names.specs.Place.{Place, NoPlace, is_in_register}
use Rattle.regalloc2_function.specs.Machine.{count_below, MachineValue}
use Rattle.regalloc2_function.specs.FunctionValue.{op_at}
use Rattle.regalloc2_fastalloc_state.specs.declared.inst_regs.InstRegs.{InstRegs}
use Rattle.regalloc2_fastalloc_state.specs.InstRegs.{free_count}
use Rattle.regalloc2_fastalloc_proofs.specs.InstSteps.{StateValue, Outcome, next, no_register, scratch_reserve_left, needs_reg_of_class}
use Rattle.regalloc2_fastalloc_proofs.specs.Safety.{IsSafe}

-- of each class that is named, enough registers are free for what is needed and for the reserved scratch register
abbrev pub HasEnoughRegs : (RegClass → Type 0) → (RegClass → ℕ) → InstRegs → StateValue → Type 0
HasEnoughRegs Named needed u t = (c : RegClass) → Named c → needed c + scratch_reserve_left t.fixed_stack t.dedicated_scratch u c ≤ free_count t.allocatable u c

-- a step doesn't run out of registers, and leaves enough
abbrev pub LeavesEnoughRegs : (RegClass → Type 0) → (RegClass → ℕ) → Outcome InstRegs → Type 0
LeavesEnoughRegs Named needed (next u t) = HasEnoughRegs Named needed u t
LeavesEnoughRegs Named needed no_register = ⊥

-- all registers but one are as free as before
pub record TakesAtMost (by : Register) (t u : InstRegs) : Type 0 where
  pub early : (q : Register) → is_register by q ≡ false → has_register u.early q ≡ has_register t.early q
  pub late : (q : Register) → is_register by q ≡ false → has_register u.late q ≡ has_register t.late q

-- whether the operand at an index requires any register of a class, and has no place yet
abbrev pub waits : List OperandValue → List Place → RegClass → ℕ → Bool
waits ops here c k = needs_reg_of_class c (op_at ops k) && not (is_in_register (slice_index_or here k NoPlace))

-- how many operands do
abbrev pub waiting : List OperandValue → List Place → RegClass → ℕ
waiting ops here c = count_below (waits ops here c) (length ops)

-- nothing is needed
abbrev pub none_needed : RegClass → ℕ
none_needed c = 0

-- every vreg's value may be written to every slot at every point
abbrev pub AllWrite : ℕ → VirtualRegister → ℕ → Type 0
AllWrite point v n = Unit {0}

-- moves are allowed at every point
abbrev pub AllMay : ℕ → Type 0
AllMay point = Unit {0}

-- the invariant `IsSafe`, where every slot and every point may have moves
abbrev pub AreSafe : MachineValue → (VirtualRegister → Type 0) → StateValue → Type 0
AreSafe env Known t = IsSafe env Known AllWrite AllMay t
