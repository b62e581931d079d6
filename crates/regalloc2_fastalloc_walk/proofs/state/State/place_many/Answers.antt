use Rattle.std.proofs.Common.{sym, ◌∙◌, rules, arith, ℕ, subst}
use Rattle.std.proofs.lemmas.Result.{err_from_is_err_and, MatchResult-weaker}
use Rattle.regalloc2_fastalloc_proofs.proofs.Evictions.PushedAndRemoved.{same_machine_trans}
use Rattle.regalloc2_fastalloc_walk.specs.PlaceSteps.{in_lates, in_earlies}
use Rattle.regalloc2_fastalloc_walk.specs.StateView.{tables_of, IsStepAt}
use Rattle.regalloc2_fastalloc_walk.proofs.InstPlaced.{placed, not_placed, operands_stay_in_tables}
use Rattle.regalloc2_fastalloc_walk.proofs.Steps.{fails_with, step_trans_fails, step_after}
use Rattle.regalloc2_fastalloc_walk.proofs.state.State.place_many.Goals as goal

pub process_many_at-requires-2 : goal.process_many_at-requires-2
process_many_at-requires-2 g c = (
  search rules,
  (
    c.requires.inst,
    (
      c.in_ok-process_many_at.ensures.step.later,
      (
        operands_stay_in_tables _ (tables_of c.args.self.now) (tables_of c.process_many_at.new.self) c.in_ok-process_many_at.ensures.step.long c.requires.in_tables,
        c.process_many_at.auto.allocs ∙ c.requires.allocs_long,
      ),
    ),
  ),
)

pub move_many_uses-requires : goal.move_many_uses-requires
move_many_uses-requires g c =
    let at = c.before-2.ensures.point (λ e. omega (arith, c.requires.inst)) in (
      search rules,
      (
        λ k d lt. let w = c.in_ok-process_many_at-2.ensures.step.later k d lt in omega (arith, w, at),
        (
          operands_stay_in_tables _ (tables_of c.args.self.now) (tables_of c.process_many_at-2.new.self)
              (c.in_ok-process_many_at-2.ensures.step.long ∙ c.in_ok-process_many_at.ensures.step.long) c.requires.in_tables,
          c.process_many_at-2.auto.allocs ∙ c.process_many_at.auto.allocs ∙ c.requires.allocs_long,
        ),
      ),
    )

pub returns-clause-outcome : goal.returns-clause-outcome
returns-clause-outcome g c =
    let at = c.before-2.ensures.point (λ e. omega (arith, c.requires.inst)) in
    MatchResult-weaker c.move_many_uses.result c.move_many_uses.ensures.outcome
    (λ v. placed at c.in_ok-process_many_at.ensures.outcome c.in_ok-process_many_at-2.ensures.outcome)
    (λ e stops lacks. not_placed at c.in_ok-process_many_at.ensures.outcome c.in_ok-process_many_at-2.ensures.outcome (stops lacks))

pub returns-clause-step : goal.returns-clause-step
returns-clause-step g c = subst (λ (p : ℕ). IsStepAt p c.move_many_uses.result c.args.self.now c.move_many_uses.new.self)
    (c.before-2.ensures.point (λ e. omega (arith, c.requires.inst)))
    (step_after c.move_many_uses.result c.args.self.now c.process_many_at-2.new.self c.move_many_uses.new.self
    (same_machine_trans _ _ _ c.process_many_at.ensures.step.machine c.process_many_at-2.ensures.step.machine)
    (c.in_ok-process_many_at-2.ensures.step.long ∙ c.in_ok-process_many_at.ensures.step.long) c.move_many_uses.ensures.step)

-- the machine stays, wherever the stages stop
pub returns-in_err-process_many_at-clause-step : goal.returns-in_err-process_many_at-clause-step
returns-in_err-process_many_at-clause-step g c =
    let e = err_from_is_err_and c.from_residual.result c.from_residual.ensures.1 in
    fails_with c.from_residual.result c.args.self.now c.process_many_at.new.self e.1 e.2 c.process_many_at.ensures.step.machine
    c.in_err-process_many_at.ensures.step.err

pub returns-in_err-process_many_at-2-clause-step : goal.returns-in_err-process_many_at-2-clause-step
returns-in_err-process_many_at-2-clause-step g c =
    let e = err_from_is_err_and c.from_residual-in_err-process_many_at-2.result c.from_residual-in_err-process_many_at-2.ensures.1 in
    step_trans_fails c.from_residual-in_err-process_many_at-2.result c.args.self.now c.process_many_at.new.self c.process_many_at-2.new.self e.1 e.2
    c.process_many_at.ensures.step.machine c.in_err-process_many_at-2.ensures.step

-- where the stages stop
pub returns-in_err-process_many_at-clause-outcome : goal.returns-in_err-process_many_at-clause-outcome
returns-in_err-process_many_at-clause-outcome g c =
    let e = err_from_is_err_and c.from_residual.result c.from_residual.ensures.1 in
    rw e.1 (λ lacks. in_lates (c.in_err-process_many_at.ensures.outcome (sym e.2 ∙ lacks)))

pub returns-in_err-process_many_at-2-clause-outcome : goal.returns-in_err-process_many_at-2-clause-outcome
returns-in_err-process_many_at-2-clause-outcome g c =
    let e = err_from_is_err_and c.from_residual-in_err-process_many_at-2.result c.from_residual-in_err-process_many_at-2.ensures.1 in
    rw e.1 (λ lacks. in_earlies _ _ _ c.in_ok-process_many_at.ensures.outcome (c.in_err-process_many_at-2.ensures.outcome (sym e.2 ∙ lacks)))
