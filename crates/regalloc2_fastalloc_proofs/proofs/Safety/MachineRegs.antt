-- The registers of a machine that fits the function, as the walk's tables have them.
use Rattle.std.proofs.Common.{◌≡◌, ◌≢◌, ◌<◌, true, false, subst, inl, ◌⊎◌}
use Rattle.std.specs.Prelude.{None, Some, slice_index_or}
use Rattle.std.proofs.lemmas.Bool.{false_from_ne_true}
use Rattle.std.proofs.lemmas.List.Elements.{All-contains}
use Rattle.regalloc2_names.specs.declared.RegClass.{RegClass}
use Rattle.regalloc2_names.specs.Register.{Register, class_code, invalid_register, has_register}
use Rattle.regalloc2_function.specs.FunctionValue.{FunctionValue}
use Rattle.regalloc2_function.specs.Machine.{MachineValue, is_allocatable, scratch_of, IsFixedStackSlot}
use Rattle.regalloc2_function.specs.Fitting.{MachineFits}
use Rattle.regalloc2_fastalloc_proofs.specs.BranchSteps.{RegsAvoidStack}
use Rattle.regalloc2_fastalloc_proofs.specs.InstSteps.{StateValue}
use Rattle.regalloc2_fastalloc_proofs.proofs.Moves.ScratchRegTaken.{Fit}

-- the registers of a machine that fits the function, with numbers below 64, fit: their three kinds are disjoint
pub machine_fit : (f : FunctionValue) (env : MachineValue) (t : StateValue) → MachineFits f env →
    ((r : Register) → (has_register t.allocatable r ≡ true) ⊎ (has_register t.fixed_stack r ≡ true) → r.number < 64) →
    ((r : Register) → r.number < 64 → has_register t.allocatable r ≡ true → is_allocatable env r.class r ≡ true) →
    ((r : Register) → has_register t.fixed_stack r ≡ true → IsFixedStackSlot env r) →
    ((c : RegClass) (r : Register) → slice_index_or t.dedicated_scratch (class_code c) None ≡ Some r → scratch_of env c ≡ Some r) → Fit t
machine_fit f env t fits small allocatable fixed dedicated_scratch = record {
  small = small;
  stack_apart = λ r h. false_from_ne_true (has_register t.fixed_stack r) (λ e.
      let yes : is_allocatable env r.class r ≡ true = allocatable r (small r (inl h)) h in
      let no = slot_apart r.class r (fixed r e) in let x : is_allocatable env r.class r ≡ false = no.0 in cc);
  own_apart = λ c b h.
      let s = (fits c).scratch b (dedicated_scratch c b h) in (
        false_from_ne_true (has_register t.allocatable b) (λ e.
            let yes : is_allocatable env c b ≡ true = subst (λ x. is_allocatable env x b ≡ true) s.0 (allocatable b (small b (inl e)) e) in
            let no : is_allocatable env c b ≡ false = s.1 in cc),
        false_from_ne_true (has_register t.fixed_stack b) (λ e. (slot_apart c b (fixed b e)).1 (dedicated_scratch c b h)),
      );
}
  where
    slot_apart : (c : RegClass) (r : Register) → IsFixedStackSlot env r → (is_allocatable env c r ≡ false) × (scratch_of env c ≢ Some r)
        × (r ≢ invalid_register)
    slot_apart c r is = All-contains (λ (q : Register). (is_allocatable env c q ≡ false) × (scratch_of env c ≢ Some q) × (q ≢ invalid_register))
        env.fixed_stack_slots r (fits c).slots_apart is

-- no fixed stack slot is allocatable or reserved for moves
pub fit_apart : (t : StateValue) → Fit t → RegsAvoidStack t
fit_apart t fit = record { allocatable = fit.stack_apart; dedicated_scratch = λ c r has. (fit.own_apart c r has).1 }
