-- Each slot that a branch owns serves that branch alone.
use Rattle.std.proofs.Common.{ℕ, ◌≡◌, ◌∙◌, sym}
use Rattle.regalloc2_names.specs.declared.RegClass.{RegClass}
use Rattle.regalloc2_names.specs.Register.{VirtualRegister}
use Rattle.regalloc2_function.specs.FunctionValue.{FunctionValue}
use Rattle.regalloc2_function.specs.OutputValue.{OutputValue}
use Rattle.regalloc2_semantics.specs.Places.{IsSlotOf, OfBranch}
use Rattle.regalloc2_fastalloc_state.specs.StateParts.{SpillSlotsValue}
use Rattle.regalloc2_fastalloc_proofs.proofs.Slots.ApartSlotsAreOwned.{OwnsSlots}
use Rattle.regalloc2_fastalloc_proofs.proofs.Slots.StepsKeepSlotsApart.{not_branch}
use Rattle.regalloc2_fastalloc.specs.Guarantee.{ServesBranch}

-- two at most for a class, and named by no operand, by no debug location, and by moves before the branch alone
pub branch_slots_serve : (Known : VirtualRegister → Type 0) (f : FunctionValue) (s : SpillSlotsValue) (out : OutputValue) → (owns : OwnsSlots Known f s out) →
    (n i : ℕ) (class : RegClass) (index : ℕ) → IsSlotOf out n → owns.owned.owner n ≡ OfBranch i class index → ServesBranch out n i index
branch_slots_serve Known f s out owns = λ n i class index named of. record {
  of_two = owns.two n i class index named of;
  moves = λ k d lt ends. owns.moves k d lt n i class index of ends;
  no_operand = λ k d lt at. (let x = owns.allocs k d lt n at in not_branch x.0 i class index (sym x.1 ∙ of));
  no_location = λ k d lt at. (let x = owns.shown k d lt n at in not_branch x.0 i class index (sym x.1 ∙ of));
}
