-- The place that is chosen for an operand, and what the operand claims.
use Rattle.std.proofs.Common.{ℕ, ◌≡◌, ◌≢◌, Bool, true, false, inl, inr, ◌⊎◌, refl, sym, ap, ◌∙◌}
use Rattle.std.specs.Prelude.{None, IsTrue, not}
use Rattle.std.proofs.lemmas.Bool.{not-true}
use Rattle.regalloc2_names.specs.Register.{Register, has_register}
use Rattle.regalloc2_names.specs.Place.{Place, NoPlace, InRegister, InSlot, is_place, register_of_place}
use Rattle.regalloc2_names.specs.declared.sets.PRegSet.{PRegSet}
use Rattle.regalloc2_semantics.proofs.Cells.{is_place-true, is_place-same}
use Rattle.regalloc2_fastalloc_state.specs.declared.inst_regs.InstRegs.{InstRegs}
use Rattle.regalloc2_fastalloc_state.specs.declared.positions.Positions.{Positions}
use Rattle.regalloc2_fastalloc_state.specs.declared.request.Requirement.{Requirement}
use Rattle.regalloc2_fastalloc_state.specs.declared.request.Requirement.TheVariants.{AnyPlace, AnyReg, OnStack, InPReg}
use Rattle.regalloc2_fastalloc_state.specs.declared.request.OperandRequest.{OperandRequest}
use Rattle.regalloc2_fastalloc_state.specs.InstRegs.{SameAvailable, RemovesAvailable}
use Rattle.regalloc2_fastalloc_proofs.specs.InstSteps.{StateValue, MeetsRequirement, is_stack_in, ClaimsPlace, in_slot, in_register}

-- any place meets the requirement of any place
pub any_place_meets_requirement : (t : StateValue) (w : Requirement) (p : Place) → w ≡ AnyPlace → p ≢ NoPlace → (IsTrue true → MeetsRequirement t w p)
    × (MeetsRequirement t w p → IsTrue true)
unfolding MeetsRequirement
any_place_meets_requirement t w p e there = rw e (λ h. there, λ s. refl)

-- a place meets the requirement of any register exactly if it isn't on the stack
pub meets_requirement_any : (t : StateValue) (w : Requirement) (p : Place) (b : Bool) → w ≡ AnyReg → p ≢ NoPlace → b ≡ is_stack_in t p →
    (IsTrue (not b) → MeetsRequirement t w p) × (MeetsRequirement t w p → IsTrue (not b))
unfolding MeetsRequirement
meets_requirement_any t w p b e there same = rw e (by_place p b there same)
  where
    by_place : (p : Place) (b : Bool) → p ≢ NoPlace → b ≡ is_stack_in t p
        → (not b ≡ true → (r : Register) × (p ≡ InRegister r) × (is_stack_in t p ≡ false))
        × (((r : Register) × (p ≡ InRegister r) × (is_stack_in t p ≡ false)) → not b ≡ true)
    by_place NoPlace b there same = absurd (there refl)
    by_place (InRegister r) b there same = (λ h. (r, refl, sym same ∙ not-true b h), λ s. ap not (same ∙ s.2))
    by_place (InSlot n) b there same = (λ h. absurd (let f = not-true b h in cc), λ s. absurd (let f = s.1 in cc))

-- a place meets the requirement of a stack place exactly if it is on the stack
pub meets_requirement_memory : (t : StateValue) (w : Requirement) (p : Place) (b : Bool) → w ≡ OnStack → b ≡ is_stack_in t p →
    (IsTrue b → MeetsRequirement t w p)
    × (MeetsRequirement t w p → IsTrue b)
unfolding MeetsRequirement
meets_requirement_memory t w p b e same = rw e (λ h. sym same ∙ h, λ s. same ∙ s)

-- a place meets the requirement of one register exactly if it is that register
pub meets_requirement_at : (t : StateValue) (w : Requirement) (p : Place) (r : Register) (b : Bool) → w ≡ InPReg r → b ≡ is_place p (InRegister r) →
    (IsTrue b → MeetsRequirement t w p) × (MeetsRequirement t w p → IsTrue b)
unfolding MeetsRequirement
meets_requirement_at t w p r b e same = rw e (
  λ h. is_place-true p (InRegister r) (sym same ∙ h),
  λ s. same ∙ ap (λ (q : Place). is_place q (InRegister r)) s
      ∙ is_place-same (InRegister r),
)

-- what meets a requirement is a place
pub meets_requirement_is_place : (t : StateValue) (w : Requirement) (p : Place) → MeetsRequirement t w p → p ≢ NoPlace
unfolding MeetsRequirement
meets_requirement_is_place t AnyPlace p s = s
meets_requirement_is_place t AnyReg p s = λ e. let f = sym s.1 ∙ e in cc
meets_requirement_is_place t OnStack p s = λ e. let f = sym (ap (is_stack_in t) e) ∙ s in cc
meets_requirement_is_place t (InPReg r) p s = λ e. let f = sym s ∙ e in cc

-- the remaining requirements, if it is neither a specific nor any register
pub wanted_rest : (w : Requirement) → ((r : Register) → w ≡ InPReg r → ⊥) → (w ≡ AnyReg → ⊥) → (w ≡ AnyPlace) ⊎ (w ≡ OnStack)
wanted_rest AnyPlace a b = inl refl
wanted_rest AnyReg a b = absurd (b refl)
wanted_rest OnStack a b = inr refl
wanted_rest (InPReg r) a b = absurd (a r refl)

-- a place that is neither none nor a register is a spill slot
pub slot_place : (p : Place) → p ≢ NoPlace → register_of_place p ≡ None → (k : ℕ) × (p ≡ InSlot k)
slot_place NoPlace there e = absurd (there refl)
slot_place (InRegister r) there e = absurd cc
slot_place (InSlot k) there e = (k, refl)

-- counting the waiting operands doesn't change what is held
pub holds_counted : (m h u : InstRegs) (r : Register) (p : Positions) → RemovesAvailable m h r p → SameAvailable h u → RemovesAvailable m u r p
holds_counted m h u r p holds same = record {
  early = λ q. ap (λ (s : PRegSet). has_register s q) same.early ∙ holds.early q;
  late = λ q. ap (λ (s : PRegSet). has_register s q) same.late ∙ holds.late q;
  scratch = same.scratch ∙ holds.scratch;
}

-- claiming a place doesn't depend on how many operands still wait for a register
pub claims_place_counted : (point : ℕ) (o : OperandRequest) (p : Place) (t u w : InstRegs) (old new : StateValue) → ClaimsPlace point o p t u old new →
    SameAvailable u w → ClaimsPlace point o p t w old new
claims_place_counted point o p t u w old new (in_slot k e same f) more =
    in_slot k e (record { early = more.early ∙ same.early; late = more.late ∙ same.late; scratch = more.scratch ∙ same.scratch }) f
claims_place_counted point o p t u w old new (in_register r m e clears holds) more = in_register r m e clears (holds_counted m u w r o.positions holds more)
