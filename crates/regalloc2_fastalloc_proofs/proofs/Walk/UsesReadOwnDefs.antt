-- The walk over a well-formed function, from a fresh state to the output: its operands are in the tables.
use Rattle.std.proofs.Common.{ℕ, ◌≡◌, ◌<◌, Bool, true, List, [], ◌∷◌, length, sym, ap, ◌∙◌, subst, inl, inr, ◌⊎◌}
use Rattle.std.specs.Prelude.{None}
use Rattle.regalloc2_names.specs.declared.RegClass.{RegClass}
use Rattle.regalloc2_names.specs.declared.RegClass.TheVariants.{Int, Float, Vector}
use Rattle.regalloc2_names.specs.Register.{Register, has_register}
use Rattle.regalloc2_names.specs.RegisterBits.{bits_of_register}
use Rattle.regalloc2_names.specs.Place.{NoPlace}
use Rattle.regalloc2_function.specs.FunctionValue.{FunctionValue, IsLimited, inst_at, op_at}
use Rattle.regalloc2_function.specs.Machine.{MachineValue}
use Rattle.regalloc2_function.specs.Fitting.{MachineFits}
use Rattle.regalloc2_function.specs.WellFormed.{IsWellFormed}
use Rattle.regalloc2_carry.specs.Instruction.{Knows}
use Rattle.regalloc2_carry.proofs.SingleDef.{Made}
use Rattle.regalloc2_fastalloc_state.specs.StateParts.{VRegAllocsValue, SpillSlotsValue, alloc_of, vreg_of_preg, slot_name, units_of, no_allocs, no_slots}
use Rattle.regalloc2_fastalloc_proofs.specs.InstSteps.{StateValue, InTables}
use Rattle.regalloc2_fastalloc_proofs.specs.BlockSteps.{DefinesBelow}
use Rattle.regalloc2_fastalloc_proofs.specs.Safety.{HasMachine}
use Rattle.regalloc2_carry.proofs.Plain.{always}
use Rattle.regalloc2_fastalloc_proofs.proofs.Moves.ScratchRegTaken.{Fit}
use Rattle.regalloc2_fastalloc_proofs.proofs.Evictions.EvictFixed.{counts_by}
use Rattle.regalloc2_fastalloc_proofs.proofs.Operands.WellFormedInsts.{knows}
use Rattle.regalloc2_fastalloc_proofs.proofs.Safety.MachineRegs.{machine_fit}
use Rattle.regalloc2_fastalloc_proofs.proofs.Safety.StateKept.{made_below}
use Rattle.regalloc2_fastalloc_proofs.proofs.Walk.InstsCarry.{Blank}

-- fresh tables
pub fresh_blank : (t : StateValue) (n : ℕ) (sizes : List ℕ) (by_last : Bool) {watched : List Bool} → t.places ≡ no_allocs n watched → t.slots ≡ no_slots n sizes by_last → t.edits ≡ [] →
    ((c : RegClass) → 0 < units_of (no_slots n sizes by_last) c) → Blank t
fresh_blank t n sizes by_last places slots none units = record {
  nowhere = λ k. ap (λ (p : VRegAllocsValue). alloc_of p k) places ∙ always n k NoPlace;
  none_held = λ r small. ap (λ (p : VRegAllocsValue). vreg_of_preg p r) places ∙ always 256 (bits_of_register r) None;
  no_slot = λ k. ap (λ (s : SpillSlotsValue). slot_name s k) slots ∙ always n k NoPlace;
  units = λ c. subst (λ (s : SpillSlotsValue). 0 < units_of s c) (sym slots) (units c);
  no_move = none;
}

-- a slot of each class has at least one unit
pub some_units : (n : ℕ) (int float vector : ℕ) (by_last : Bool) → 0 < int → 0 < float → 0 < vector → (c : RegClass) →
    0 < units_of (no_slots n (int ∷ float ∷ vector ∷ []) by_last) c
some_units n int float vector by_last a b c Int = a
some_units n int float vector by_last a b c Float = b
some_units n int float vector by_last a b c Vector = c

-- the registers of a fresh state fit, if the machine fits the function
pub fresh_fit : (f : FunctionValue) (env : MachineValue) (t : StateValue) → MachineFits f env → HasMachine env t →
    ((r : Register) → (has_register t.allocatable r ≡ true) ⊎ (has_register t.fixed_stack r ≡ true) → r.number < 64) → Fit t
fresh_fit f env t fits m small = machine_fit f env t fits small m.allocatable m.fixed_stack m.dedicated_scratch

module _ (env : MachineValue) (f : FunctionValue) (limited : IsLimited f) (ok : IsWellFormed env f) where
  -- each operand that reads or defines names a vreg in the tables
  pub all_in_tables : (t : StateValue) → DefinesBelow f (length t.places.vreg_allocs) → (i : ℕ) → i < length f.insts → InTables (inst_at f i).operands t
  all_in_tables t below i lt k less able =
      let w : Knows (Made f) (inst_at f i).operands = knows env f limited ok i lt in
      let made : Made f (op_at (inst_at f i).operands k).vreg = elim (counts_by (inst_at f i).operands k less able).1 [
        | inl d ↦ w.definition k less d
        | inr r ↦ w.reading k less r
      ] in
      made_below f (length t.places.vreg_allocs) below (op_at (inst_at f i).operands k).vreg made
