-- What the start of a block does to the tables.
use Rattle.std.specs.Prelude.{ℕ, ◌≡◌, ◌≢◌, ◌+◌, ◌<◌, not, List, length, None, slice_index_or}
use Rattle.regalloc2_names.specs.Register.{Register, VirtualRegister, no_vreg}
use Rattle.regalloc2_names.specs.Place.{Place, NoPlace, is_place}
use Rattle.regalloc2_fastalloc_state.specs.declared.inst_regs.InstRegs.{InstRegs}
use Rattle.regalloc2_fastalloc_state.specs.StateParts.{IsNewest, alloc_of, vreg_of_preg, GetsSpillSlot, SetsAlloc}
use Rattle.regalloc2_fastalloc_proofs.specs.InstSteps.{StateValue, Outcome, next, no_register, InTurn, SameMachine, IsFresh, EvictPReg, EvictsPReg, AddMoveIf}

-- a parameter of the block: it is in its slot on entry, and has no location before
pub data ReloadParam (point : ℕ) (v : VirtualRegister) (t : InstRegs) (old : StateValue) : Outcome InstRegs → Type 0 where
  nowhere : {u : InstRegs} {new : StateValue} → alloc_of old.places v.number ≡ NoPlace → u ≡ t → new ≡ old → ReloadParam point v t old (next u new)
  comes : {o : Outcome InstRegs} (s : Place) (m : StateValue) → alloc_of old.places v.number ≢ NoPlace → GetsSpillSlot old.slots m.slots v s →
      SetsAlloc old.places m.places v NoPlace → m.edits ≡ old.edits → SameMachine old m
      → m.lrus ≡ old.lrus → AddMoveIf point v.class (not (is_place s (alloc_of old.places v.number))) s (alloc_of old.places v.number) t m o
      → ReloadParam point v t old o

-- the case of `ReloadParam` with a next state
abbrev pub ReloadsParam : ℕ → VirtualRegister → InstRegs → InstRegs → StateValue → StateValue → Type 0
ReloadsParam point v t u old new = ReloadParam point v t old (next u new)

-- the first k parameters, in order
pub data ReloadsParams (point : ℕ) (params : List VirtualRegister) (t : InstRegs) (old : StateValue) : ℕ → InstRegs → StateValue → Type 0 where
  none_begun : ReloadsParams point params t old 0 t old
  one_begun : (k : ℕ) (u w : InstRegs) (m n : StateValue) → k < length params → ReloadsParams point params t old k u m →
      ReloadsParam point (slice_index_or params k no_vreg) u w m n → ReloadsParams point params t old (k + 1) w n

-- all parameters are reloaded, or the moves of one lack a register
abbrev pub ReloadParams : ℕ → List VirtualRegister → InstRegs → StateValue → Outcome InstRegs → Type 0
ReloadParams point params t old = InTurn (length params) (ReloadsParams point params t old)
    (λ k u m. ReloadParam point (slice_index_or params k no_vreg) u m no_register)

-- the registers that hold vregs are emptied one by one, the last filled first
pub data ReloadsRegs (point : ℕ) (t : InstRegs) (old : StateValue) : InstRegs → StateValue → Type 0 where
  none_emptied : ReloadsRegs point t old t old
  one_emptied : (r : Register) (u w : InstRegs) (m n : StateValue) → ReloadsRegs point t old u m → IsNewest m.places r → EvictsPReg point r u w m n →
      ReloadsRegs point t old w n

-- a register can't be emptied, after others were
pub record RegsAreNotReloaded (point : ℕ) (t : InstRegs) (old : StateValue) : Type 0 where
  pub register : Register
  pub inst_regs : InstRegs
  pub middle : StateValue
  pub empties : ReloadsRegs point t old inst_regs middle
  pub stops : EvictPReg point register inst_regs middle no_register

-- all registers that hold vregs are emptied, or one of them can't be
abbrev pub ReloadRegs : ℕ → InstRegs → StateValue → Outcome InstRegs → Type 0
ReloadRegs point t old (next u new) = ReloadsRegs point t old u new
ReloadRegs point t old no_register = RegsAreNotReloaded point t old

-- The start of a block: on entry its parameters are in their slots, and so is each vreg that is in a register after it.
pub record ReloadsAtBegin (point : ℕ) (params : List VirtualRegister) (old new : StateValue) : Type 0 where
  pub began : InstRegs
  pub begun : InstRegs
  pub ended : InstRegs
  pub middle : StateValue
  pub fresh : IsFresh began old
  pub parameters : ReloadsParams point params began old (length params) begun middle
  pub empties : ReloadsRegs point begun middle ended new
  pub emptied : (r : Register) → r.number < 64 → vreg_of_preg new.places r ≡ None

-- a parameter can't be moved, or a register can't be emptied
pub data BeginIsNotReloaded (point : ℕ) (params : List VirtualRegister) (old : StateValue) : Type 0 where
  at_parameter : (began : InstRegs) → IsFresh began old → ReloadParams point params began old no_register → BeginIsNotReloaded point params old
  at_register : (began begun : InstRegs) (m : StateValue) → IsFresh began old → ReloadsParams point params began old (length params) begun m →
      ReloadRegs point begun m no_register → BeginIsNotReloaded point params old

-- the reloads at the start of a block are made, or lack a register
abbrev pub ReloadAtBegin : ℕ → List VirtualRegister → StateValue → Outcome (Unit {0}) → Type 0
ReloadAtBegin point params old (next x new) = ReloadsAtBegin point params old new
ReloadAtBegin point params old no_register = BeginIsNotReloaded point params old
