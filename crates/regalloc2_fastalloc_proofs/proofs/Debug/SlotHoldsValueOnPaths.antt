-- If a vreg has a slot, the slot holds its value on every path from its definition to each later use.
use Rattle.std.proofs.Common.{ℕ}
use Rattle.regalloc2_names.specs.Register.{VirtualRegister}
use Rattle.regalloc2_names.specs.Place.{InSlot}
use Rattle.regalloc2_function.specs.FunctionValue.{FunctionValue}
use Rattle.regalloc2_function.specs.Machine.{MachineValue}
use Rattle.regalloc2_function.specs.OutputValue.{OutputValue}
use Rattle.regalloc2_semantics.specs.Runs.{IsDefinitelyAssigned}
use Rattle.regalloc2_function.specs.WellFormed.{IsWellFormed}
use Rattle.regalloc2_semantics.specs.Debug.{ShowsValue}
use Rattle.regalloc2_semantics.specs.Laws.{ReadsAgreeOnPaths}
use Rattle.regalloc2_fastalloc_proofs.specs.Debug.SlotWrites.{IsSlotOfValue}
use Rattle.regalloc2_fastalloc_proofs.proofs.Debug.SlotHoldsToUses.{slot_holds}
use Rattle.regalloc2_fastalloc_proofs.proofs.Debug.WellFormedPaths.{plain_function, inst_lt, next_inside}
use Rattle.regalloc2_fastalloc_proofs.proofs.Debug.MovesLeaveSlot.{kept_in_slot}

-- in a well-formed function whose reads agree, a vreg's slot holds its value from each write to later uses, but at
-- branches
pub slot_shows_value : (env : MachineValue) (f : FunctionValue) (out : OutputValue) (v : VirtualRegister) (n : ℕ) → IsWellFormed env f → IsDefinitelyAssigned f →
    ReadsAgreeOnPaths f out → IsSlotOfValue f out v n → ShowsValue f out v (InSlot n)
slot_shows_value env f out v n ok written agree slot =
    slot_holds f out v (plain_function env f ok written v) (InSlot n) agree
    (kept_in_slot f out v n (inst_lt env f ok written v) (next_inside env f ok written v) slot)
