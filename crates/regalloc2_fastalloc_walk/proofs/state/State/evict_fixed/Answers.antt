use Rattle.std.proofs.Common.{ℕ, ◌≡◌, List, length, refl, sym, ap, ◌∙◌, subst, arith, rules}
use Rattle.regalloc2_names.specs.Register.{VirtualRegister}
use Rattle.regalloc2_names.specs.Operand.{OperandValue}
use Rattle.regalloc2_function.specs.FunctionValue.{op_at}
use Rattle.regalloc2_fastalloc_proofs.specs.InstSteps.{StateValue, EvictsOtherVRegs, EvictsFixed, none_cleared, not_fixed, of_fixed, of_reuse}
use Rattle.regalloc2_fastalloc_proofs.proofs.Evictions.PushedAndRemoved.{same_machine_trans}
use Rattle.regalloc2_fastalloc_walk.specs.StateView.{tables_of}
use Rattle.regalloc2_fastalloc_state.proofs.ValidateLemmas.OperandReads.{read_operand, read_vreg}
use Rattle.std.proofs.lemmas.Result.{err_from_is_err_and}
use Rattle.regalloc2_fastalloc_walk.proofs.RegsReserved.{evicts_none}
use Rattle.regalloc2_fastalloc_walk.proofs.Steps.{stops_others, step_trans_fails}
use Rattle.regalloc2_fastalloc_walk.proofs.StepsFail.{step_none}
use Rattle.regalloc2_fastalloc_walk.proofs.state.State.evict_fixed.Goals as goal
use Rattle.regalloc2_fastalloc_walk.proofs.state.State.evict_fixed.Goals.{in-FixedReg+in_ok-evict_other_vregs-in-FixedReg}
use Rattle.regalloc2_fastalloc_walk.proofs.state.State.evict_fixed.Goals.{in-Reuse+in-Some+in_ok-evict_preg-in-Reuse}
use Rattle.regalloc2_fastalloc_walk.proofs.state.State.evict_fixed.Goals.{in-Reuse+in_default-reused_register, in_default}

-- no operand is fixed to a register
pub returns-then-not-any_fixed-clause-outcome : goal.returns-then-not-any_fixed-clause-outcome
returns-then-not-any_fixed-clause-outcome g c =
    evicts_none c.args.point c.args.operands.now c.args.inst_regs.now (tables_of c.args.self.now) (c.requires.unfixed c.if-not-any_fixed.true)
    (length c.args.operands.now) (omega arith)

pub loop-k-init : goal.loop-k-init
loop-k-init g c = record {
  cleared = none_cleared c.args.self.now.registers.lrus (λ none. refl);
  awaited = refl;
  later = c.requires.later;
  long = refl;
  machine = record { allocatable = refl; fixed_stack = refl; dedicated_scratch = refl; sizes = refl; vregs = refl; num_temp_slots = refl };
}

pub loop-k-preserved : goal.loop-k-preserved
loop-k-preserved g c =
    let ops : List OperandValue = c.args.operands.now in
    let k : ℕ = c.loop-k.k in
    let o : OperandValue = c.index-operands-k.result in
    let is : o ≡ op_at ops k = read_operand ops k o c.loop-k-test.true c.index-operands-k.is in
    let asks = ap (λ (x : OperandValue). x.constraint) (sym is) in
    let at : (op_at ops k).constraint ≡ c.constraint.result = asks ∙ sym c.constraint.ensures.constraint in
    let begin : StateValue = tables_of c.args.self.now in
    let m : StateValue = tables_of c.loop-k.self in
    let h = c.loop-k.invariant in
    elim c.match-constraint.branch [
      | in-FixedReg+in_ok-evict_other_vregs-in-FixedReg w ↦ rw (w.self-is, w.inst_regs-is) (
          let n : StateValue = tables_of w.evict_other_vregs.new.self in
          let P : VirtualRegister → Type 0 = λ v. EvictsOtherVRegs c.args.point w.in-FixedReg.preg v c.loop-k.inst_regs w.evict_other_vregs.new.inst_regs m n in
          record {
            cleared = of_fixed k w.in-FixedReg.preg c.loop-k.inst_regs w.evict_other_vregs.new.inst_regs m n h.cleared (at ∙ w.in-FixedReg.is)
                (subst P (read_vreg ops k o w.vreg.result c.loop-k-test.true c.index-operands-k.is w.vreg.ensures)
                w.in_ok-evict_other_vregs-in-FixedReg.ensures.outcome);
            awaited = w.evict_other_vregs.ensures.awaited ∙ h.awaited;
            later = w.in_ok-evict_other_vregs-in-FixedReg.ensures.step.later;
            long = w.in_ok-evict_other_vregs-in-FixedReg.ensures.step.long ∙ h.long;
            machine = same_machine_trans begin m n h.machine w.in_ok-evict_other_vregs-in-FixedReg.ensures.step.machine;
          })
      | in-Reuse+in-Some+in_ok-evict_preg-in-Reuse w ↦ rw (w.self-is, w.inst_regs-is) (
          let n : StateValue = tables_of w.evict_preg.new.self in
          let named = w.in-Some.ensures.some in
          record {
            cleared = of_reuse k named.0 w.in-Some.preg c.loop-k.inst_regs w.evict_preg.new.inst_regs m n h.cleared (asks ∙ named.1) named.2
                named.3 w.in_ok-evict_preg-in-Reuse.ensures.outcome;
            awaited = w.evict_preg.ensures.awaited ∙ h.awaited;
            later = w.in_ok-evict_preg-in-Reuse.ensures.step.later;
            long = w.in_ok-evict_preg-in-Reuse.ensures.step.long ∙ h.long;
            machine = same_machine_trans begin m n h.machine w.in_ok-evict_preg-in-Reuse.ensures.step.machine;
          })
      | in-Reuse+in_default-reused_register w ↦ rw (w.self-is, w.inst_regs-is) (record {
        cleared = not_fixed k c.loop-k.inst_regs m h.cleared (λ r e. let x = sym (at ∙ w.in-Reuse.is) ∙ e in cc)
            (λ n r e less named. w.in_default-reused_register.ensures.none n r (sym asks ∙ e) less named);
        awaited = h.awaited;
        later = h.later;
        long = h.long;
        machine = h.machine;
      })
      | in_default w ↦ rw (w.self-is, w.inst_regs-is) (record {
        cleared = not_fixed k c.loop-k.inst_regs m h.cleared (λ r e. w.in_default.not-FixedReg r (sym at ∙ e))
            (λ n r e less named. w.in_default.not-Reuse n (sym at ∙ e));
        awaited = h.awaited;
        later = h.later;
        long = h.long;
        machine = h.machine;
      })
    ]

pub returns-clause-outcome : goal.returns-clause-outcome
returns-clause-outcome g c =
    let e : c.loop-k.k ≡ length c.args.operands.now = omega arith in
    subst (λ k. EvictsFixed c.args.point c.args.operands.now c.args.inst_regs.now (tables_of c.args.self.now) k c.loop-k.inst_regs (tables_of c.loop-k.self)) e
    c.loop-k.invariant.cleared

-- a register can't be emptied of others
pub returns-in_err-evict_other_vregs-in-FixedReg-clause-outcome : goal.returns-in_err-evict_other_vregs-in-FixedReg-clause-outcome
returns-in_err-evict_other_vregs-in-FixedReg-clause-outcome g c =
    let e = err_from_is_err_and c.from_residual.result c.from_residual.ensures.1 in
    rw e.1 (λ same. record {
      index = c.loop-k.k;
      given = c.loop-k.inst_regs;
      middle = tables_of c.loop-k.self;
      inside = c.loop-k-test.true;
      done = c.loop-k.invariant.cleared;
      stops = (c.in-FixedReg.preg, stops_others (c.in_err-evict_other_vregs-in-FixedReg.ensures.outcome (sym e.2 ∙ same)));
    })

pub returns-then-not-any_fixed-clause-step : goal.returns-then-not-any_fixed-clause-step
returns-then-not-any_fixed-clause-step g c = step_none c.args.self.now c.requires.later

pub returns-clause-awaited : goal.returns-clause-awaited
returns-clause-awaited g c = c.loop-k.invariant.awaited

pub returns-clause-step : goal.returns-clause-step
returns-clause-step g c = record {
  machine = c.loop-k.invariant.machine;
  later = c.loop-k.invariant.later;
  long = c.loop-k.invariant.long;
  err = search rules;
}

pub returns-in_err-evict_other_vregs-in-FixedReg-clause-awaited : goal.returns-in_err-evict_other_vregs-in-FixedReg-clause-awaited
returns-in_err-evict_other_vregs-in-FixedReg-clause-awaited g c = c.evict_other_vregs.ensures.awaited ∙ c.loop-k.invariant.awaited

pub returns-in_err-evict_other_vregs-in-FixedReg-clause-step : goal.returns-in_err-evict_other_vregs-in-FixedReg-clause-step
returns-in_err-evict_other_vregs-in-FixedReg-clause-step g c =
    let e = err_from_is_err_and c.from_residual.result c.from_residual.ensures.1 in
    step_trans_fails c.from_residual.result c.args.self.now c.loop-k.self c.evict_other_vregs.new.self e.1 e.2 c.loop-k.invariant.machine
    c.in_err-evict_other_vregs-in-FixedReg.ensures.step
