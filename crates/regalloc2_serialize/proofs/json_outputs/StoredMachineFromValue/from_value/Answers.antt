use Rattle.std.proofs.Common.{refl}
use Rattle.std.proofs.lemmas.Result.{err_from_is_err_and}
use Rattle.serde_json.specs.View.{view}
use Rattle.regalloc2_serialize.proofs.EncodedLists.{machine-read}
use Rattle.regalloc2_serialize.proofs.json_outputs.StoredMachineFromValue.from_value.Goals as goal

pub returns-clause-ok : goal.returns-clause-ok
returns-clause-ok g c =
    machine-read (λ l. l.items) (view c.args.value.now) c.in_ok-preferred_regs_by_class.preferred_regs_by_class.items
    c.in_ok-non_preferred_regs_by_class.non_preferred_regs_by_class.items c.in_ok-scratch_by_class.scratch_by_class.items
    c.in_ok-fixed_stack_slots.fixed_stack_slots.items
    c.in_ok-preferred_regs_by_class.ensures.ok c.in_ok-non_preferred_regs_by_class.ensures.ok c.in_ok-scratch_by_class.ensures.ok
    c.in_ok-fixed_stack_slots.ensures.ok

pub returns-in_err-preferred_regs_by_class-clause-faults : goal.returns-in_err-preferred_regs_by_class-clause-faults
returns-in_err-preferred_regs_by_class-clause-faults g c = let p = err_from_is_err_and c.from_residual.result c.from_residual.ensures.1 in rw (p.1, p.2) c.in_err-preferred_regs_by_class.ensures.faults

pub returns-in_err-non_preferred_regs_by_class-clause-faults : goal.returns-in_err-non_preferred_regs_by_class-clause-faults
returns-in_err-non_preferred_regs_by_class-clause-faults g c = let p = err_from_is_err_and c.from_residual-in_err-non_preferred_regs_by_class.result c.from_residual-in_err-non_preferred_regs_by_class.ensures.1 in rw (p.1, p.2) c.in_err-non_preferred_regs_by_class.ensures.faults

pub returns-in_err-scratch_by_class-clause-faults : goal.returns-in_err-scratch_by_class-clause-faults
returns-in_err-scratch_by_class-clause-faults g c = let p = err_from_is_err_and c.from_residual-in_err-scratch_by_class.result c.from_residual-in_err-scratch_by_class.ensures.1 in rw (p.1, p.2) c.in_err-scratch_by_class.ensures.faults

pub returns-in_err-fixed_stack_slots-clause-faults : goal.returns-in_err-fixed_stack_slots-clause-faults
returns-in_err-fixed_stack_slots-clause-faults g c = let p = err_from_is_err_and c.from_residual-in_err-fixed_stack_slots.result c.from_residual-in_err-fixed_stack_slots.ensures.1 in rw (p.1, p.2) c.in_err-fixed_stack_slots.ensures.faults

pub returns-clause-faults : goal.returns-clause-faults
returns-clause-faults g c = tt

pub returns-clause-shape : goal.returns-clause-shape
returns-clause-shape g c = tt

pub returns-in_err-preferred_regs_by_class-clause-shape : goal.returns-in_err-preferred_regs_by_class-clause-shape
returns-in_err-preferred_regs_by_class-clause-shape g c =
    let p = err_from_is_err_and c.from_residual.result c.from_residual.ensures.1 in
    rw (p.1, p.2) (λ e. rw (c.in_err-preferred_regs_by_class.ensures.shape e) refl)

pub returns-in_err-non_preferred_regs_by_class-clause-shape : goal.returns-in_err-non_preferred_regs_by_class-clause-shape
returns-in_err-non_preferred_regs_by_class-clause-shape g c =
    let p = err_from_is_err_and c.from_residual-in_err-non_preferred_regs_by_class.result c.from_residual-in_err-non_preferred_regs_by_class.ensures.1 in
    rw (p.1, p.2) (λ e. rw (c.in_ok-preferred_regs_by_class.ensures.ok, c.in_err-non_preferred_regs_by_class.ensures.shape e) refl)

pub returns-in_err-scratch_by_class-clause-shape : goal.returns-in_err-scratch_by_class-clause-shape
returns-in_err-scratch_by_class-clause-shape g c =
    let p = err_from_is_err_and c.from_residual-in_err-scratch_by_class.result c.from_residual-in_err-scratch_by_class.ensures.1 in
    rw (p.1, p.2) (λ e. rw (
      c.in_ok-preferred_regs_by_class.ensures.ok,
      c.in_ok-non_preferred_regs_by_class.ensures.ok,
      c.in_err-scratch_by_class.ensures.shape e,
    ) refl)

pub returns-in_err-fixed_stack_slots-clause-shape : goal.returns-in_err-fixed_stack_slots-clause-shape
returns-in_err-fixed_stack_slots-clause-shape g c =
    let p = err_from_is_err_and c.from_residual-in_err-fixed_stack_slots.result c.from_residual-in_err-fixed_stack_slots.ensures.1 in
    rw (p.1, p.2) (λ e. rw (
      c.in_ok-preferred_regs_by_class.ensures.ok,
      c.in_ok-non_preferred_regs_by_class.ensures.ok,
      c.in_ok-scratch_by_class.ensures.ok,
      c.in_err-fixed_stack_slots.ensures.shape e,
    ) refl)
