use Rattle.std.proofs.Common.{ℕ, ◌≡◌, length, sym, ap, ◌∙◌, subst, arith, rules}
use Rattle.regalloc2_names.specs.declared.sets.PRegSet.{PRegSet}
use Rattle.regalloc2_names.specs.Place.{before}
use Rattle.regalloc2_names.specs.Register.{has_register}
use Rattle.regalloc2_fastalloc_proofs.specs.BlockStart.{ReloadsParams, ReloadsRegs, ReloadParams, ReloadRegs, at_parameter, at_register}
use Rattle.std.proofs.lemmas.Result.{err_from_is_err_and, MatchResult-weaker}
use Rattle.regalloc2_fastalloc_walk.proofs.Steps.{step_after, with_value}
use Rattle.regalloc2_fastalloc_walk.specs.StateView.{tables_of, IsStepAt}
use Rattle.regalloc2_fastalloc_state.specs.StateParts.{AllAtOrAfter}
use Rattle.regalloc2_fastalloc_proofs.specs.InstSteps.{no_register, IsFresh}
use Rattle.regalloc2_fastalloc_walk.proofs.state.State.reload_at_begin.Goals as goal

pub reload_params-requires : goal.reload_params-requires
reload_params-requires g c =
    let at : c.before-point.result ≡ before c.args.first = c.before-point.ensures.point (λ e. omega (arith, c.requires.inst)) in
    (search rules, (subst (λ (p : ℕ). AllAtOrAfter p c.args.self.now.edits) (sym at) c.requires.later, c.requires.known))

pub returns-clause-outcome : goal.returns-clause-outcome
returns-clause-outcome g c =
    let at : c.before-point.result ≡ before c.args.first = c.before-point.ensures.point (λ e. omega (arith, c.requires.inst)) in
    let m = tables_of c.reload_params.new.self in
    let n = tables_of c.reload_regs.new.self in
    let fresh : IsFresh c.new-inst_regs.result (tables_of c.args.self.now) = record {
      early = λ r. ap (λ (s : PRegSet). has_register s r) c.new-inst_regs.ensures.early ∙ c.available_regs.ensures r;
      late = λ r. ap (λ (s : PRegSet). has_register s r) c.new-inst_regs.ensures.late ∙ c.available_regs.ensures r;
      scratch = c.new-inst_regs.ensures.scratch;
      awaited = c.new-inst_regs.ensures.awaited;
    } in
    let parameters = subst (λ (p : ℕ). ReloadsParams p c.args.params.now c.new-inst_regs.result (tables_of c.args.self.now) (length c.args.params.now)
    c.reload_params.new.inst_regs m) at c.in_ok-reload_params.ensures.outcome in
    MatchResult-weaker c.reload_regs.result (with_value _ _ _ c.reload_regs.result c.reload_regs.ensures.outcome c.reload_regs.ensures.emptied)
    (λ v done. record {
      began = c.new-inst_regs.result;
      begun = c.reload_params.new.inst_regs;
      ended = c.reload_regs.new.inst_regs;
      middle = m;
      fresh = fresh;
      parameters = parameters;
      empties = subst (λ (p : ℕ). ReloadsRegs p c.reload_params.new.inst_regs m c.reload_regs.new.inst_regs n) at done.0;
      emptied = done.1;
    })
    (λ e stops lacks. at_register c.new-inst_regs.result c.reload_params.new.inst_regs m fresh parameters
    (subst (λ (p : ℕ). ReloadRegs p c.reload_params.new.inst_regs m no_register) at (stops lacks)))

pub returns-clause-step : goal.returns-clause-step
returns-clause-step g c =
    let at : c.before-point.result ≡ before c.args.first = c.before-point.ensures.point (λ e. omega (arith, c.requires.inst)) in
    subst (λ (p : ℕ). IsStepAt p c.reload_regs.result c.args.self.now c.reload_regs.new.self) at
    (step_after c.reload_regs.result c.args.self.now c.reload_params.new.self c.reload_regs.new.self c.in_ok-reload_params.ensures.step.machine
    c.in_ok-reload_params.ensures.step.long c.reload_regs.ensures.step)

-- a parameter can't be moved, or a register can't be emptied
pub returns-in_err-reload_params-clause-outcome : goal.returns-in_err-reload_params-clause-outcome
returns-in_err-reload_params-clause-outcome g c =
    let at : c.before-point.result ≡ before c.args.first = c.before-point.ensures.point (λ e. omega (arith, c.requires.inst)) in
    let e = err_from_is_err_and c.from_residual.result c.from_residual.ensures.1 in
    rw e.1 (λ same. at_parameter c.new-inst_regs.result (record {
      early = λ r. ap (λ (s : PRegSet). has_register s r) c.new-inst_regs.ensures.early ∙ c.available_regs.ensures r;
      late = λ r. ap (λ (s : PRegSet). has_register s r) c.new-inst_regs.ensures.late ∙ c.available_regs.ensures r;
      scratch = c.new-inst_regs.ensures.scratch;
      awaited = c.new-inst_regs.ensures.awaited;
    })
    (subst (λ (p : ℕ). ReloadParams p c.args.params.now c.new-inst_regs.result (tables_of c.args.self.now) no_register) at
    (c.in_err-reload_params.ensures.outcome
    (sym e.2 ∙ same))))
