-- The list of the vregs in registers gets shorter with each reload of the last filled register.
-- The fold in `Changes` doesn't apply: the proof splits two to four relations, fewer than the kinds of change.
use Rattle.std.proofs.Common.{ℕ, ◌≡◌, ◌<◌, ◌≤◌, ◌∙◌, false, not, length, refl, sym, ap, arith, nat_eq, eq-eqb, true}
use Rattle.std.specs.Prelude.{Contains, Some}
use Rattle.regalloc2_names.specs.Register.{Register, VirtualRegister}
use Rattle.regalloc2_names.specs.declared.RegClass.{RegClass}
use Rattle.regalloc2_names.specs.Place.{Place, NoPlace, InRegister, InSlot, is_in_register}
use Rattle.regalloc2_fastalloc_state.specs.StateParts.{VRegAllocsValue, SetsAlloc, IsSlotOrNone, IsNewest, in_front_if, without}
use Rattle.regalloc2_fastalloc_state.specs.declared.inst_regs.InstRegs.{InstRegs}
use Rattle.regalloc2_fastalloc_state.proofs.TakenOut.{length_kept, shorter}
use Rattle.regalloc2_fastalloc_proofs.specs.InstSteps.{StateValue, EvictsVReg, none_held, moved, AllocsScratchReg}
use Rattle.regalloc2_fastalloc_proofs.specs.InstSteps.{dedicated_scratch, had, found, AddsMove, direct, through, EvictsPReg, empty, cleared}

-- a slot is no register
slot_only : (count : ℕ) (s : Place) → IsSlotOrNone count s → is_in_register s ≡ false
slot_only count NoPlace h = refl
slot_only count (InRegister r) h = absurd h
slot_only count (InSlot n) h = refl

-- moving a vreg to its slot adds no vreg to the front of the list
order_after : (old new : VRegAllocsValue) (v : VirtualRegister) (s : Place) (count : ℕ) → IsSlotOrNone count s → SetsAlloc old new v s →
    new.in_registers ≡ without v.number old.in_registers
order_after old new v s count slot z = z.order
    ∙ ap (λ b. in_front_if b v (without v.number old.in_registers)) (slot_only count s slot)

no_longer : (old new : VRegAllocsValue) (v : VirtualRegister) (s : Place) (count : ℕ) → IsSlotOrNone count s → SetsAlloc old new v s →
    length new.in_registers ≤ length old.in_registers
no_longer old new v s count slot z = rw (order_after old new v s count slot z) (length_kept (λ w. not (nat_eq w.number v.number)) old.in_registers)

-- an eviction doesn't make the list longer
evicts_vreg_no_longer : (point : ℕ) (by : Register) (old new : StateValue) → EvictsVReg point by old new →
    length new.places.in_registers ≤ length old.places.in_registers
evicts_vreg_no_longer point by old new (none_held h e) = rw e (omega arith)
evicts_vreg_no_longer point by old new (moved v s small h gives sets_alloc edits machine order) =
    no_longer old.places new.places v s new.slots.count gives.below sets_alloc

allocs_scratch_reg_no_longer : (point : ℕ) (class : RegClass) (t u : InstRegs) (by : Register) (old new : StateValue) →
    AllocsScratchReg point class t u by old new →
    length new.places.in_registers ≤ length old.places.in_registers
allocs_scratch_reg_no_longer point class t u by old new (dedicated_scratch d e f) = rw f (omega arith)
allocs_scratch_reg_no_longer point class t u by old new (had d h e f) = rw f (omega arith)
allocs_scratch_reg_no_longer point class t u by old new (found d n may e l he hl s evicts) = evicts_vreg_no_longer point by old new evicts

-- adding a move brings no vreg to a register
adds_move_no_longer : (point : ℕ) (class : RegClass) (from to : Place) (t u : InstRegs) (old new : StateValue) → AddsMove point class from to t u old new →
    length new.places.in_registers ≤ length old.places.in_registers
adds_move_no_longer point class from to t u old new (direct b e f) = rw f (omega arith)
adds_move_no_longer point class from to t u old new (through by m b s e) = rw e (allocs_scratch_reg_no_longer point class t u by old m s)

-- evicting the last filled register makes the list of vregs in registers shorter
pub newest_leaves : (point : ℕ) (by : Register) (t u : InstRegs) (old new : StateValue) → EvictsPReg point by t u old new → IsNewest old.places by →
    length new.places.in_registers < length old.places.in_registers
newest_leaves point by t u old new (empty h e f) n = absurd (let held = n.held in cc)
newest_leaves point by t u old new (cleared v s m small h gives sets_alloc edits machine order crosses) n =
    let same : n.vreg ≡ v = (let e : Some n.vreg ≡ Some v = sym n.held ∙ h in cc) in
    let there : Contains old.places.in_registers v = rw n.newest (0, omega arith, same) in
    let self : nat_eq v.number v.number ≡ true = eq-eqb v.number v.number refl in
    let less : length (without v.number old.places.in_registers) < length old.places.in_registers =
    shorter (λ w. not (nat_eq w.number v.number)) old.places.in_registers v there (ap not self) in
    let one : length m.places.in_registers < length old.places.in_registers = rw (order_after old.places m.places v s m.slots.count gives.below sets_alloc) less in
    let two = adds_move_no_longer point v.class s (InRegister by) t u m new crosses in omega (arith, one, two)
