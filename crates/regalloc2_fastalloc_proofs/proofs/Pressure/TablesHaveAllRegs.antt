-- The tables have all of the machine's registers, and keep them.
use Rattle.std.proofs.Common.{◌≡◌, true, List, sym, ap, ◌∙◌, subst}
use Rattle.std.specs.Prelude.{Option, None, slice_index_or}
use Rattle.regalloc2_names.specs.declared.sets.PRegSet.{PRegSet}
use Rattle.regalloc2_names.specs.Register.{Register, class_code, has_register}
use Rattle.regalloc2_function.specs.Machine.{MachineValue, is_allocatable}
use Rattle.regalloc2_fastalloc_proofs.specs.InstSteps.{StateValue}
use Rattle.regalloc2_fastalloc_proofs.specs.Safety.{HasMachine}
use Rattle.regalloc2_fastalloc_proofs.proofs.Branches.BranchCarries.{fit_like}
use Rattle.regalloc2_fastalloc_proofs.proofs.Moves.ScratchRegTaken.{Fit}
use Rattle.regalloc2_fastalloc_proofs.proofs.Safety.StepsKeepMachine.{KeepsMachine}

-- the tables have the machine's registers, all of them
pub record HasAll (env : MachineValue) (t : StateValue) : Type 0 where
  pub machine : HasMachine env t
  pub fit : Fit t
  pub allocatable : (r : Register) → is_allocatable env r.class r ≡ true → has_register t.allocatable r ≡ true
  pub dedicated_scratch : t.dedicated_scratch ≡ env.scratch

-- a state with all of the machine's registers has them still after a step that keeps them
pub all_kept : (env : MachineValue) (old new : StateValue) → KeepsMachine old new → HasAll env old → HasAll env new
all_kept env old new k h = record {
  machine = record {
    allocatable = λ r small has. h.machine.allocatable r small (subst (λ (a : PRegSet). has_register a r ≡ true) k.allocatable has);
    fixed_stack = λ r has. h.machine.fixed_stack r (subst (λ (a : PRegSet). has_register a r ≡ true) k.fixed_stack has);
    memory = λ r is. subst (λ (a : PRegSet). has_register a r ≡ true) (sym k.fixed_stack) (h.machine.memory r is);
    dedicated_scratch = λ c r has. h.machine.dedicated_scratch c r
        (ap (λ (l : List (Option Register)). slice_index_or l (class_code c) None) (sym k.dedicated_scratch) ∙ has);
  };
  fit = fit_like old new k.allocatable k.fixed_stack k.dedicated_scratch h.fit;
  allocatable = λ r is. ap (λ (a : PRegSet). has_register a r) k.allocatable ∙ h.allocatable r is;
  dedicated_scratch = k.dedicated_scratch ∙ h.dedicated_scratch;
}
