-- The owners of the slots of an output.
use Rattle.std.proofs.Common.{ℕ, ◌≡◌, ◌<◌, ⊎_elim, Bool, true, false, ◌&&◌, length, subst}
use Rattle.std.proofs.lemmas.Bool.{cases_Bool}
use Rattle.regalloc2_names.specs.declared.OperandConstraint.{OperandConstraint}
use Rattle.regalloc2_names.specs.declared.OperandConstraint.TheVariants.{FixedReg}
use Rattle.regalloc2_names.specs.Register.{VirtualRegister}
use Rattle.regalloc2_names.specs.Operand.{OperandValue, is_fixed, is_fixed_nonallocatable}
use Rattle.regalloc2_names.specs.Place.{Place, InRegister, InSlot}
use Rattle.regalloc2_function.specs.FunctionValue.{FunctionValue, inst_at, op_at}
use Rattle.regalloc2_function.specs.Machine.{MachineValue}
use Rattle.regalloc2_function.specs.OutputValue.{OutputValue, allocs_of, place_at}
use Rattle.regalloc2_semantics.specs.Live.{NamesAt}
use Rattle.regalloc2_fastalloc_state.specs.StateParts.{SpillSlotsValue, SlotsHaveOneOwner, slot_name}
use Rattle.regalloc2_fastalloc_proofs.specs.InstSteps.{StateValue}
use Rattle.regalloc2_fastalloc_proofs.specs.Safety.{MayBeLocatedAt}
use Rattle.regalloc2_fastalloc_proofs.proofs.Operands.AllocsSoFar.{AreSoundOperands, MeetsByItself, IsGood}
use Rattle.regalloc2_fastalloc_proofs.proofs.Safety.OutputOfWalk.{IsOutputOfWalk, operand_good}

-- an operand that is fixed to a register has no slot
fixed_no_slot : (env : MachineValue) (c : OperandConstraint) (b : Bool) (n : ℕ) → (is_fixed c && b) ≡ true → MeetsByItself env c (InSlot n) → ⊥
fixed_no_slot env (FixedReg r) b n h m = (let e : InSlot n ≡ InRegister r = m in cc)
fixed_no_slot env c b n h m = absurd cc

-- an operand whose place is a slot names a vreg, and the slot is that vreg's own
own_slot : (env : MachineValue) (s : SpillSlotsValue) (o : OperandValue) (p : Place) (n : ℕ) → IsGood env s o p → p ≡ InSlot n →
    (is_fixed_nonallocatable o ≡ false) × (slot_name s o.vreg.number ≡ InSlot n)
own_slot env s o p n good is = ⊎_elim
    (λ (silent : is_fixed_nonallocatable o ≡ true). absurd (fixed_no_slot env o.constraint _ n silent (subst (MeetsByItself env o.constraint) is good.meets)))
    (λ (allocated : is_fixed_nonallocatable o ≡ false). (allocated, subst (MayBeLocatedAt env s o.vreg) is (good.place allocated)))
    (cases_Bool (is_fixed_nonallocatable o))

module _ (f : FunctionValue) (env : MachineValue) (Known : VirtualRegister → Type 0) (May : ℕ → Type 0) (t : StateValue) (o : OutputValue)
    (m : IsOutputOfWalk f env Known May t o) (owned : SlotsHaveOneOwner t.slots) (sound_ops : (i : ℕ) → i < length f.insts → AreSoundOperands Known (inst_at f i).operands) where
  -- a vreg that is in a slot is known, and owns the slot
  pub owner_known : (v : VirtualRegister) (n i k : ℕ) → NamesAt f v i k → place_at (allocs_of o i) k ≡ InSlot n →
      Known v × (slot_name t.slots v.number ≡ InSlot n)
  owner_known v n i k (lt, less, same) is =
      let x : OperandValue = op_at (inst_at f i).operands k in
      let own = own_slot env t.slots x (place_at (allocs_of o i) k) n (operand_good f env Known May t o m i lt k less) is in
      subst (λ (w : VirtualRegister). Known w × (slot_name t.slots w.number ≡ InSlot n)) same ((sound_ops i lt).known k less own.0, own.1)
