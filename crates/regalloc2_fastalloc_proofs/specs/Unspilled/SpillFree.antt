-- A block in which each vreg has a register of its own: the invariant of the walk.
use Rattle.std.specs.Prelude.{ℕ, ◌≡◌, ◌≢◌, ◌<◌, ◌≤◌, ◌⊎◌, Bool, true, false, List, [], ◌++◌, All, Contains, length, nat_eq, slice_index_or}
use Rattle.std.specs.List.{IsDistinct}
use Rattle.regalloc2_names.specs.declared.RegClass.{RegClass}
use Rattle.regalloc2_names.specs.declared.OperandConstraint.TheVariants.{Reg}
use Rattle.regalloc2_names.specs.declared.sets.PRegSet.{PRegSet}
use Rattle.regalloc2_names.specs.Register.{Register, VirtualRegister, has_register}
use Rattle.regalloc2_names.specs.Place.{Place, NoPlace, InRegister}
use Rattle.regalloc2_names.specs.Operand.{OperandValue, is_def, is_late, is_reading}
use Rattle.regalloc2_semantics.specs.Fits.{register_number}
use Rattle.regalloc2_function.specs.Machine.{count_below}
use Rattle.regalloc2_function.specs.FunctionValue.{FunctionValue, inst_at, op_at}
use Rattle.regalloc2_fastalloc_state.specs.declared.inst_regs.InstRegs.{InstRegs}
use Rattle.regalloc2_fastalloc_state.specs.StateParts.{IsLruOf, slot_name, alloc_of}
use Rattle.regalloc2_fastalloc_state.specs.InstRegs.{is_free_throughout}
use Rattle.regalloc2_fastalloc_proofs.specs.BranchSteps.{RegsAvoidStack}
use Rattle.regalloc2_fastalloc_proofs.specs.InstSteps.{StateValue, order_of}
use Rattle.regalloc2_fastalloc_proofs.specs.Safety.{IsWhole}

-- two vregs with one number
abbrev pub is_same_number : VirtualRegister → VirtualRegister → Bool
is_same_number v w = nat_eq v.number w.number

-- of each class no more vregs are listed than registers are allocatable
abbrev pub FitInRegs : List VirtualRegister → PRegSet → Type 0
FitInRegs names allocatable = (class : RegClass) (vs : List VirtualRegister) → IsDistinct is_same_number vs → All (λ v. (v.class ≡ class) × Contains names v) vs
    → length vs ≤ count_below (λ n. has_register allocatable (register_number class n)) 64

-- Of one class: the used registers, which are no more than the vregs seen so far, and then the unused registers, which
-- are free and hold no vreg. A vreg seen so far has a location, unless its definition was seen.
pub record IsSpillFreeIn (names : List VirtualRegister) (gone : ℕ → Bool) (class : RegClass) (order : List Register) (t : StateValue)
    (inst_regs : InstRegs) : Type 0 where
  pub used : List Register
  pub unused : List Register
  pub met : List VirtualRegister
  pub ring : order ≡ used ++ unused
  pub few : length used ≤ length met
  pub distinct : IsDistinct is_same_number met
  pub of_class : All (λ v. (v.class ≡ class) × Contains names v) met
  pub known : (v : VirtualRegister) → Contains met v → (alloc_of t.places v.number ≢ NoPlace) ⊎ (gone v.number ≡ true)
  pub empty : (n : ℕ) (r : Register) → alloc_of t.places n ≡ InRegister r → Contains unused r → ⊥
  pub free : (r : Register) → Contains unused r → is_free_throughout inst_regs r ≡ true

-- no move and no slot was made; each vreg with a location is in an allocatable register, and its definition wasn't
-- seen; each class is as above
pub record IsSpillFree (names : List VirtualRegister) (gone : ℕ → Bool) (t : StateValue) (inst_regs : InstRegs) : Type 0 where
  pub no_moves : t.edits ≡ []
  pub no_slots : (n : ℕ) → slot_name t.slots n ≡ NoPlace
  pub no_units : t.slots.count ≡ 0
  pub whole : IsWhole t
  pub apart : RegsAvoidStack t
  pub lrus : (class : RegClass) → IsLruOf t.allocatable class (order_of t class)
  pub stand : (n : ℕ) → alloc_of t.places n ≢ NoPlace → (r : Register) × (alloc_of t.places n ≡ InRegister r) × (has_register t.allocatable r ≡ true)
  pub named : (n : ℕ) → alloc_of t.places n ≢ NoPlace → (v : VirtualRegister) × Contains names v × (v.number ≡ n)
  pub nowhere : (n : ℕ) → gone n ≡ true → alloc_of t.places n ≡ NoPlace
  pub each : (class : RegClass) → IsSpillFreeIn names gone class (order_of t class) t inst_regs

-- an instruction whose operands of a position are under `Reg` and name listed vregs, none defined so far; the vregs
-- that it defines are named once
pub record ArePlain (names : List VirtualRegister) (gone : ℕ → Bool) (operands : List OperandValue) (late : Bool) : Type 0 where
  pub under_reg : (k : ℕ) → k < length operands → (op_at operands k).constraint ≡ Reg
  pub named : (k : ℕ) → k < length operands → Contains names (op_at operands k).vreg
  pub there : (k : ℕ) → k < length operands → is_late (op_at operands k).position ≡ late → gone (op_at operands k).vreg.number ≡ false
  pub apart : (j k : ℕ) → j < length operands → k < length operands → is_def (op_at operands j).kind ≡ true →
      (op_at operands j).vreg.number ≡ (op_at operands k).vreg.number → j ≡ k

-- a vreg's number is defined by one of the first operands of a position
abbrev pub IsDefinedAmong : List OperandValue → Bool → ℕ → ℕ → Type 0
IsDefinedAmong operands late k n = (j : ℕ) × (j < k) × (is_late (op_at operands j).position ≡ late) × (is_def (op_at operands j).kind ≡ true)
    × ((op_at operands j).vreg.number ≡ n)

-- the first operands of a position are placed: uses are at their places
pub record ArePlaced (names : List VirtualRegister) (gone : ℕ → Bool) (operands : List OperandValue) (late : Bool) (k : ℕ) (here there : List Place)
    (old t : StateValue) (inst_regs : InstRegs) : Type 0 where
  pub gone_now : ℕ → Bool
  pub spill_free : IsSpillFree names gone_now t inst_regs
  pub machine : t.allocatable ≡ old.allocatable
  pub only : (n : ℕ) → gone_now n ≡ true → (gone n ≡ true) ⊎ IsDefinedAmong operands late k n
  pub stays : (n : ℕ) → gone n ≡ true → gone_now n ≡ true
  pub goes : (n : ℕ) → IsDefinedAmong operands late k n → gone_now n ≡ true
  pub long : length there ≡ length here
  pub others : (j : ℕ) → (is_late (op_at operands j).position ≡ late → k ≤ j) → slice_index_or there j NoPlace ≡ slice_index_or here j NoPlace
  pub stand : (n : ℕ) → alloc_of old.places n ≢ NoPlace → (IsDefinedAmong operands late k n → ⊥) → alloc_of t.places n ≡ alloc_of old.places n
  pub uses : (j : ℕ) → j < k → is_late (op_at operands j).position ≡ late → is_reading (op_at operands j) ≡ true → (slice_index_or there j NoPlace ≢ NoPlace)
      × (alloc_of t.places (op_at operands j).vreg.number ≡ slice_index_or there j NoPlace)

-- a vreg's number is defined by an operand
abbrev pub IsDefinedByOperand : List OperandValue → ℕ → Type 0
IsDefinedByOperand operands n = (k : ℕ) × (k < length operands) × (is_def (op_at operands k).kind ≡ true) × ((op_at operands k).vreg.number ≡ n)

-- an instruction was allocated without a spill, and the ones before it may be
pub record LeavesSpillFree (names : List VirtualRegister) (gone : ℕ → Bool) (operands : List OperandValue) (t : StateValue) : Type 0 where
  pub gone_now : ℕ → Bool
  pub only : (n : ℕ) → gone_now n ≡ true → (gone n ≡ true) ⊎ IsDefinedByOperand operands n
  pub stays : (n : ℕ) → gone n ≡ true → gone_now n ≡ true
  pub goes : (n : ℕ) → IsDefinedByOperand operands n → gone_now n ≡ true
  pub inst_regs : InstRegs
  pub spill_free : IsSpillFree names gone_now t inst_regs

-- a function of one block whose instructions require only registers, clobber none, and name listed vregs
pub record HasRegOperandsOnly (names : List VirtualRegister) (f : FunctionValue) : Type 0 where
  pub one_block : length f.blocks ≡ 1
  pub under_reg : (i k : ℕ) → i < length f.insts → k < length (inst_at f i).operands → (op_at (inst_at f i).operands k).constraint ≡ Reg
  pub named : (i k : ℕ) → i < length f.insts → k < length (inst_at f i).operands → Contains names (op_at (inst_at f i).operands k).vreg
  pub no_others : (v : VirtualRegister) → Contains names v → (i k : ℕ) × (i < length f.insts) × (k < length (inst_at f i).operands)
      × ((op_at (inst_at f i).operands k).vreg ≡ v)
  pub no_clobbers : (i : ℕ) (r : Register) → i < length f.insts → has_register (inst_at f i).clobbers r ≡ false

-- the walk has allocated its instructions from one on
pub record IsSpillFreeFrom (names : List VirtualRegister) (f : FunctionValue) (i : ℕ) (t : StateValue) : Type 0 where
  pub gone : ℕ → Bool
  pub only : (n : ℕ) → gone n ≡ true → (j : ℕ) × (i ≤ j) × (j < length f.insts) × IsDefinedByOperand (inst_at f j).operands n
  pub goes : (j n : ℕ) → i ≤ j → j < length f.insts → IsDefinedByOperand (inst_at f j).operands n → gone n ≡ true
  pub inst_regs : InstRegs
  pub spill_free : IsSpillFree names gone t inst_regs
