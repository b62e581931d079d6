use Rattle.std.proofs.Common.{sym, ◌∙◌, rules, arith}
use Rattle.std.proofs.lemmas.Result.{err_from_is_err_and}
use Rattle.regalloc2_fastalloc_proofs.proofs.Evictions.PushedAndRemoved.{same_machine_trans}
use Rattle.regalloc2_fastalloc_proofs.specs.InstSteps.{in_prepare}
use Rattle.regalloc2_fastalloc_walk.specs.PlaceSteps.{in_lates, in_earlies}
use Rattle.regalloc2_fastalloc_walk.specs.StateView.{tables_of}
use Rattle.regalloc2_fastalloc_walk.proofs.InstPlaced.{allocs_inst, stops_inst, placed, not_placed, operands_stay_in_tables}
use Rattle.regalloc2_fastalloc_walk.proofs.Steps.{fails_with, step_ok, step_trans, step_trans_fails}
use Rattle.regalloc2_fastalloc_walk.proofs.state.State.alloc_inst.Goals as goal

pub process_masked_at-requires : goal.process_masked_at-requires
process_masked_at-requires g c = (
  search rules,
  (
    c.in_ok-sorted.ensures.sorted.masks c.if-cx-gt-MAX_OPERANDS.false,
    (
      c.if-cx-gt-MAX_OPERANDS.false,
      (
        c.requires.inst,
        (
          c.in_ok-sorted.ensures.step.later,
          (
            operands_stay_in_tables _ (tables_of c.args.self.now) (tables_of c.prepare_regs.new.self) c.in_ok-sorted.ensures.step.long c.requires.in_tables,
            c.requires.allocs_long,
          ),
        ),
      ),
    ),
  ),
)

pub process_masked_at-requires-2 : goal.process_masked_at-requires-2
process_masked_at-requires-2 g c = (
  search rules,
  (
    c.in_ok-sorted.ensures.sorted.masks c.if-cx-gt-MAX_OPERANDS.false,
    (
      c.if-cx-gt-MAX_OPERANDS.false,
      (
        c.requires.inst,
        (
          c.in_ok-process_masked_at.ensures.step.later,
          (
            operands_stay_in_tables _ (tables_of c.args.self.now) (tables_of c.process_masked_at.new.self)
                (c.in_ok-process_masked_at.ensures.step.long ∙ c.in_ok-sorted.ensures.step.long) c.requires.in_tables,
            c.process_masked_at.auto.allocs ∙ c.requires.allocs_long,
          ),
        ),
      ),
    ),
  ),
)

pub move_masked_uses-requires : goal.move_masked_uses-requires
move_masked_uses-requires g c =
    let at = c.before-2.ensures.point (λ e. omega (arith, c.requires.inst)) in (
      search rules,
      (
        c.in_ok-sorted.ensures.sorted.masks c.if-cx-gt-MAX_OPERANDS.false,
        (
          c.if-cx-gt-MAX_OPERANDS.false,
          (
            λ k d lt. let w = c.in_ok-process_masked_at-2.ensures.step.later k d lt in omega (arith, w, at),
            (
              operands_stay_in_tables _ (tables_of c.args.self.now) (tables_of c.process_masked_at-2.new.self)
                  (c.in_ok-process_masked_at-2.ensures.step.long ∙ c.in_ok-process_masked_at.ensures.step.long ∙ c.in_ok-sorted.ensures.step.long)
                  c.requires.in_tables,
              c.process_masked_at-2.auto.allocs ∙ c.process_masked_at.auto.allocs ∙ c.requires.allocs_long,
            ),
          ),
        ),
      ),
    )

pub returns-clause-outcome : goal.returns-clause-outcome
returns-clause-outcome g c = allocs_inst c.in_ok-sorted.ensures.outcome c.requires.allocs_long c.requires.no_places c.requires.fresh
    (placed (c.before-2.ensures.point (λ e. omega (arith, c.requires.inst))) c.in_ok-process_masked_at.ensures.outcome
    c.in_ok-process_masked_at-2.ensures.outcome c.in_ok-move_masked_uses.ensures.outcome)

-- more operands than have masks
pub returns-then-cx-gt-MAX_OPERANDS-clause-outcome : goal.returns-then-cx-gt-MAX_OPERANDS-clause-outcome
returns-then-cx-gt-MAX_OPERANDS-clause-outcome g c = allocs_inst c.in_ok-sorted.ensures.outcome c.requires.allocs_long c.requires.no_places c.requires.fresh
    c.in_ok-place_many.ensures.outcome

pub returns-in_err-place_many-clause-outcome : goal.returns-in_err-place_many-clause-outcome
returns-in_err-place_many-clause-outcome g c =
    let e = err_from_is_err_and c.from_residual-in_err-place_many.result c.from_residual-in_err-place_many.ensures.1 in
    rw e.1 (λ lacks. stops_inst c.in_ok-sorted.ensures.outcome (c.in_err-place_many.ensures.outcome (sym e.2 ∙ lacks)))

-- the machine stays, wherever the walk stops
pub returns-in_err-sorted-clause-step : goal.returns-in_err-sorted-clause-step
returns-in_err-sorted-clause-step g c =
    let e = err_from_is_err_and c.from_residual.result c.from_residual.ensures.1 in
    fails_with c.from_residual.result c.args.self.now c.prepare_regs.new.self e.1 e.2 c.prepare_regs.ensures.step.machine c.in_err-sorted.ensures.step.err

pub returns-in_err-process_masked_at-clause-step : goal.returns-in_err-process_masked_at-clause-step
returns-in_err-process_masked_at-clause-step g c =
    let e = err_from_is_err_and c.from_residual-in_err-process_masked_at.result c.from_residual-in_err-process_masked_at.ensures.1 in
    step_trans_fails c.from_residual-in_err-process_masked_at.result c.args.self.now c.prepare_regs.new.self c.process_masked_at.new.self e.1 e.2
    c.prepare_regs.ensures.step.machine c.in_err-process_masked_at.ensures.step

pub returns-in_err-process_masked_at-2-clause-step : goal.returns-in_err-process_masked_at-2-clause-step
returns-in_err-process_masked_at-2-clause-step g c =
    let e = err_from_is_err_and c.from_residual-in_err-process_masked_at-2.result c.from_residual-in_err-process_masked_at-2.ensures.1 in
    step_trans_fails c.from_residual-in_err-process_masked_at-2.result c.args.self.now c.process_masked_at.new.self c.process_masked_at-2.new.self e.1 e.2
    (same_machine_trans _ _ _ c.prepare_regs.ensures.step.machine c.process_masked_at.ensures.step.machine) c.in_err-process_masked_at-2.ensures.step

pub returns-in_err-move_masked_uses-clause-step : goal.returns-in_err-move_masked_uses-clause-step
returns-in_err-move_masked_uses-clause-step g c =
    let e = err_from_is_err_and c.from_residual-in_err-move_masked_uses.result c.from_residual-in_err-move_masked_uses.ensures.1 in
    step_trans_fails c.from_residual-in_err-move_masked_uses.result c.args.self.now c.process_masked_at-2.new.self c.move_masked_uses.new.self e.1 e.2
    (same_machine_trans _ _ _ (same_machine_trans _ _ _ c.prepare_regs.ensures.step.machine c.process_masked_at.ensures.step.machine)
    c.process_masked_at-2.ensures.step.machine) c.in_err-move_masked_uses.ensures.step

pub returns-clause-step : goal.returns-clause-step
returns-clause-step g c = step_ok {t = tt {0}} c.args.self.now c.move_masked_uses.new.self (c.before-2.ensures.point (λ e. omega (arith, c.requires.inst)))
    (step_trans {t = tt {0}} c.args.self.now c.process_masked_at-2.new.self c.move_masked_uses.new.self
    (step_trans {t = tt {0}} c.args.self.now c.process_masked_at.new.self c.process_masked_at-2.new.self
    (step_trans c.args.self.now c.prepare_regs.new.self c.process_masked_at.new.self c.in_ok-sorted.ensures.step c.in_ok-process_masked_at.ensures.step)
    c.in_ok-process_masked_at-2.ensures.step) c.in_ok-move_masked_uses.ensures.step)

-- where an instruction stops
pub returns-in_err-sorted-clause-outcome : goal.returns-in_err-sorted-clause-outcome
returns-in_err-sorted-clause-outcome g c =
    let e = err_from_is_err_and c.from_residual.result c.from_residual.ensures.1 in
    rw e.1 (λ lacks. in_prepare (c.in_err-sorted.ensures.outcome (sym e.2 ∙ lacks)))

pub returns-in_err-process_masked_at-clause-outcome : goal.returns-in_err-process_masked_at-clause-outcome
returns-in_err-process_masked_at-clause-outcome g c =
    let e = err_from_is_err_and c.from_residual-in_err-process_masked_at.result c.from_residual-in_err-process_masked_at.ensures.1 in
    rw e.1 (λ lacks. stops_inst c.in_ok-sorted.ensures.outcome (in_lates (c.in_err-process_masked_at.ensures.outcome (sym e.2 ∙ lacks))))

pub returns-in_err-process_masked_at-2-clause-outcome : goal.returns-in_err-process_masked_at-2-clause-outcome
returns-in_err-process_masked_at-2-clause-outcome g c =
    let e = err_from_is_err_and c.from_residual-in_err-process_masked_at-2.result c.from_residual-in_err-process_masked_at-2.ensures.1 in
    rw e.1 (λ lacks. stops_inst c.in_ok-sorted.ensures.outcome
    (in_earlies _ _ _ c.in_ok-process_masked_at.ensures.outcome (c.in_err-process_masked_at-2.ensures.outcome (sym e.2 ∙ lacks))))

pub returns-in_err-move_masked_uses-clause-outcome : goal.returns-in_err-move_masked_uses-clause-outcome
returns-in_err-move_masked_uses-clause-outcome g c =
    let e = err_from_is_err_and c.from_residual-in_err-move_masked_uses.result c.from_residual-in_err-move_masked_uses.ensures.1 in
    rw e.1 (λ lacks. stops_inst c.in_ok-sorted.ensures.outcome
    (not_placed (c.before-2.ensures.point (λ f. omega (arith, c.requires.inst))) c.in_ok-process_masked_at.ensures.outcome
    c.in_ok-process_masked_at-2.ensures.outcome (c.in_err-move_masked_uses.ensures.outcome (sym e.2 ∙ lacks))))
