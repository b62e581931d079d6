-- Where a misfit is named, the machine doesn't fit.
use Rattle.std.proofs.Common.{◌≡◌, ◌<◌, false, length, slice_index_or, refl}
use Rattle.std.specs.Prelude.{◌≢◌, Some, Result, Ok, Err, IsOk, OnOk, OnErr, IfErr, ◌↔◌}
use Rattle.std.proofs.lemmas.List.Elements.{All-contains}
use Rattle.regalloc2_index.proofs.Bools.{not_both}
use Rattle.regalloc2_names.specs.Register.{Register, invalid_register}
use Rattle.regalloc2_names.specs.declared.RegClass.{RegClass}
use Rattle.regalloc2_names.specs.declared.RegClass.TheVariants.{Int}
use Rattle.regalloc2_function.specs.FunctionValue.{FunctionValue}
use Rattle.regalloc2_function.specs.Machine.{MachineValue, is_allocatable, scratch_of}
use Rattle.regalloc2_function.specs.Fitting.{MachineFits}
use Rattle.regalloc2_function.specs.Misfit.{IsMisfit, IsSlotApart}
use Rattle.regalloc2_function.specs.Reasons.{IsFirstIn}
use Rattle.regalloc2_function.specs.declared.misfit.MachineMisfit.{MachineMisfit}
use Rattle.regalloc2_function.specs.declared.misfit.MachineMisfit.TheVariants.{InvalidSlot, OtherClass, ListedTwice, InvalidRegister}
use Rattle.regalloc2_function.specs.declared.misfit.MachineMisfit.TheVariants.{ScratchOfOtherClass, ScratchAllocatable, InvalidScratch}
use Rattle.regalloc2_function.specs.declared.misfit.MachineMisfit.TheVariants.{SlotAllocatable, SlotIsScratch, NoRegister}

-- what holds of each fixed stack slot holds of the first one that serves a class
taken : (env : MachineValue) (class : RegClass) (r : Register) (P : Register → Type 0) →
    ((k : _) (d : Register) → k < length env.fixed_stack_slots → P (slice_index_or env.fixed_stack_slots k d)) → IsFirstIn (IsSlotApart env class) env.fixed_stack_slots r → P r
taken env class r P all first = All-contains P env.fixed_stack_slots r all (first.0, first.1.0, first.2)

-- a machine of which a misfit with a function is named doesn't fit the function
pub misfit_fails : (f : FunctionValue) (env : MachineValue) (m : MachineMisfit) → IsMisfit f env m → MachineFits f env → ⊥
misfit_fails f env InvalidSlot h fits =
    (All-contains (λ r. (is_allocatable env Int r ≡ false) × (scratch_of env Int ≢ Some r) × (r ≢ invalid_register)) env.fixed_stack_slots invalid_register
    (fits Int).slots_apart h).2 refl
misfit_fails f env (OtherClass class r) h fits = h.2 ((fits class).of_class r h.1)
misfit_fails f env (ListedTwice class r) h fits = not_both _ h.3 ((fits class).listed_once r h.2)
misfit_fails f env (InvalidRegister class) h fits = not_both _ h.3 (fits class).valid
misfit_fails f env (ScratchOfOtherClass class r) h fits = h.2 ((fits class).scratch r h.1).0
misfit_fails f env (ScratchAllocatable class r) h fits = not_both _ h.3 ((fits class).scratch r h.1).1
misfit_fails f env (InvalidScratch class) h fits = ((fits class).scratch invalid_register h.1).2 refl
misfit_fails f env (SlotAllocatable class r) h fits = not_both _ h.2
    (taken env class r (λ s. (is_allocatable env class s ≡ false) × (scratch_of env class ≢ Some s) × (s ≢ invalid_register)) (fits class).slots_apart h.1).0
misfit_fails f env (SlotIsScratch class r) h fits =
    (taken env class r (λ s. (is_allocatable env class s ≡ false) × (scratch_of env class ≢ Some s) × (s ≢ invalid_register)) (fits class).slots_apart h.1).1
    h.3
misfit_fails f env (NoRegister class) h fits = let r = (fits class).has_a_register h.2 in not_both _ r.1 (h.3 r.0)

-- what always holds is said of an error
pub always : {T E : Type 0} (r : Result T E) (P : Type 0) → P → OnErr r P
always (Ok x) P p = tt
always (Err e) P p = p

-- errors that deny a fact
pub denies : {T E : Type 0} (r : Result T E) (P : Type 0) (Q : E → Type 0) → IfErr r Q → ((e : E) → Q e → P → ⊥) → OnErr r (P → ⊥)
denies (Ok x) P Q q denied = tt
denies (Err e) P Q q denied = denied e q

-- a test returns `Ok` exactly if a fact holds, if its errors deny that fact
pub ok_iff : {T E : Type 0} (r : Result T E) (P : Type 0) → OnOk r P → OnErr r (P → ⊥) → IsOk r ↔ P
ok_iff (Ok x) P p denied = (λ _. p, λ _. refl)
ok_iff (Err e) P p denied = (λ ok. absurd cc, λ h. absurd (denied h))
