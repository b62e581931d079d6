use Rattle.std.proofs.Common.{ℕ, ◌≡◌, List, length, sym, ap, ◌∙◌, subst, rules, arith, slice_index}
use Rattle.std.proofs.lemmas.Result.{err_from_is_err_and}
use Rattle.regalloc2_names.specs.Register.{class_code, registers_of}
use Rattle.regalloc2_names.specs.Place.{after}
use Rattle.regalloc2_names.specs.Operand.{OperandValue}
use Rattle.regalloc2_fastalloc_state.specs.StateParts.{AllAtOrAfter}
use Rattle.regalloc2_fastalloc_proofs.specs.InstSteps.{StateValue, EvictsFixed, EvictsEach, no_register, EvictFixed, EvictEach, in_reserve, in_fixed}
use Rattle.regalloc2_fastalloc_proofs.specs.InstSteps.{in_clobbers}
use Rattle.regalloc2_fastalloc_proofs.proofs.Evictions.PushedAndRemoved.{same_machine_trans}
use Rattle.regalloc2_fastalloc_proofs.proofs.Evictions.FixedUsed.{fails_from, evicts_fixed_from, same_used}
use Rattle.regalloc2_fastalloc_walk.proofs.RegsReserved.{removes_clobbers}
use Rattle.regalloc2_fastalloc_walk.proofs.Steps.{fails_with, step_trans_fails}
use Rattle.regalloc2_fastalloc_walk.specs.StateView.{tables_of}
use Rattle.regalloc2_fastalloc_walk.proofs.state.State.prepare_regs.Goals as goal

pub evict_fixed-requires : goal.evict_fixed-requires
evict_fixed-requires g c =
    let at : c.after-point.result ≡ after c.args.cx.now.inst = c.after-point.ensures.point (λ e. omega (arith, c.requires.inst)) in
    let same : tables_of c.reserve.new.self ≡ record (tables_of c.args.self.now) { lrus = c.reserve.new.self.registers.lrus } =
    c.reserve.ensures.same in (
      search rules,
      (
        subst (λ (t : StateValue). AllAtOrAfter c.after-point.result t.edits) (sym same)
            (subst (λ (p : ℕ). AllAtOrAfter p c.args.self.now.edits) (sym at) c.requires.later),
        c.in_ok-sorted.ensures.sorted.none,
      ),
    )

pub returns-clause-outcome : goal.returns-clause-outcome
returns-clause-outcome g c =
    let ops : List OperandValue = c.args.cx.now.operands.now in
    let at : c.after-point.result ≡ after c.args.cx.now.inst = c.after-point.ensures.point (λ e. omega (arith, c.requires.inst)) in
    let same : tables_of c.reserve.new.self ≡ record (tables_of c.args.self.now) { lrus = c.reserve.new.self.registers.lrus } =
    c.reserve.ensures.same in
    let F : ℕ → StateValue → Type 0 = λ p t. EvictsFixed p ops c.remove_late.new.self t (length ops) c.evict_fixed.new.inst_regs
    (tables_of c.evict_fixed.new.self) in
    let C : ℕ → Type 0 = λ p. EvictsEach p (registers_of c.args.cx.now.clobbers) c.evict_fixed.new.inst_regs (tables_of c.evict_fixed.new.self)
    c.evict_clobbers.new.inst_regs (tables_of c.evict_clobbers.new.self) in
    record {
      reserved = c.reserve.new.inst_regs;
      held = c.remove_late.new.self;
      cleared = c.evict_fixed.new.inst_regs;
      middle = tables_of c.evict_fixed.new.self;
      reserves = c.in_ok-sorted.ensures.outcome;
      holds = removes_clobbers c.args.cx.now.clobbers c.reserve.new.inst_regs c.remove_late.new.self c.remove_late.ensures.late c.remove_late.ensures.early
          c.remove_late.ensures.scratch c.remove_late.ensures.awaited;
      fixed = evicts_fixed_from c.in_ok-sorted.ensures.unused (subst (F (after c.args.cx.now.inst)) same
          (subst (λ (p : ℕ). F p (tables_of c.reserve.new.self)) at c.in_ok-evict_fixed.ensures.outcome));
      emptied = subst C at c.in_ok-evict_clobbers.ensures.outcome;
      awaited = λ class. ap (λ (xs : List ℕ). slice_index xs (class_code class))
          (c.evict_clobbers.ensures.awaited ∙ c.evict_fixed.ensures.awaited ∙ c.remove_late.ensures.awaited)
          ∙ c.in_ok-sorted.ensures.outcome.awaited c.requires.fresh.awaited class;
    }

pub returns-clause-step : goal.returns-clause-step
returns-clause-step g c =
    let at : c.after-point.result ≡ after c.args.cx.now.inst = c.after-point.ensures.point (λ e. omega (arith, c.requires.inst)) in
    let same : tables_of c.reserve.new.self ≡ record (tables_of c.args.self.now) { lrus = c.reserve.new.self.registers.lrus } =
    c.reserve.ensures.same in
    record {
      machine = same_machine_trans _ _ _ (same_machine_trans _ _ _ (same_used _ _ _ same) c.evict_fixed.ensures.step.machine) c.evict_clobbers.ensures.step.machine;
      later = subst (λ (p : ℕ). AllAtOrAfter p c.evict_clobbers.new.self.edits) at c.in_ok-evict_clobbers.ensures.step.later;
      long = c.in_ok-evict_clobbers.ensures.step.long ∙ c.in_ok-evict_fixed.ensures.step.long ∙ ap (λ (t : StateValue). length t.places.vreg_allocs) same;
      err = search rules;
    }

-- the machine stays, wherever the walk stops
pub returns-in_err-sorted-clause-step : goal.returns-in_err-sorted-clause-step
returns-in_err-sorted-clause-step g c =
    let e = err_from_is_err_and c.from_residual.result c.from_residual.ensures.1 in
    fails_with c.from_residual.result c.args.self.now c.reserve.new.self e.1 e.2 (same_used _ _ _ c.reserve.ensures.same) c.in_err-sorted.ensures.err

pub returns-in_err-evict_fixed-clause-step : goal.returns-in_err-evict_fixed-clause-step
returns-in_err-evict_fixed-clause-step g c =
    let e = err_from_is_err_and c.from_residual-in_err-evict_fixed.result c.from_residual-in_err-evict_fixed.ensures.1 in
    step_trans_fails c.from_residual-in_err-evict_fixed.result c.args.self.now c.reserve.new.self c.evict_fixed.new.self e.1 e.2
    (same_used _ _ _ (c.reserve.ensures.same)) c.in_err-evict_fixed.ensures.step

pub returns-in_err-evict_clobbers-clause-step : goal.returns-in_err-evict_clobbers-clause-step
returns-in_err-evict_clobbers-clause-step g c =
    let e = err_from_is_err_and c.from_residual-in_err-evict_clobbers.result c.from_residual-in_err-evict_clobbers.ensures.1 in
    step_trans_fails c.from_residual-in_err-evict_clobbers.result c.args.self.now c.evict_fixed.new.self c.evict_clobbers.new.self e.1 e.2
    (same_machine_trans _ _ _ (same_used _ _ _ (c.reserve.ensures.same)) c.evict_fixed.ensures.step.machine)
    c.in_err-evict_clobbers.ensures.step

-- what is lacking
pub returns-in_err-sorted-clause-outcome : goal.returns-in_err-sorted-clause-outcome
returns-in_err-sorted-clause-outcome g c =
    let e = err_from_is_err_and c.from_residual.result c.from_residual.ensures.1 in
    rw e.1 (λ lacks. in_reserve (c.in_err-sorted.ensures.outcome (sym e.2 ∙ lacks)))

pub returns-in_err-evict_fixed-clause-outcome : goal.returns-in_err-evict_fixed-clause-outcome
returns-in_err-evict_fixed-clause-outcome g c =
    let ops : List OperandValue = c.args.cx.now.operands.now in
    let i : ℕ = c.args.cx.now.inst in
    let at : c.after-point.result ≡ after i = c.after-point.ensures.point (λ e. omega (arith, c.requires.inst)) in
    let old : StateValue = tables_of c.args.self.now in
    let same : tables_of c.reserve.new.self ≡ record old { lrus = c.reserve.new.self.registers.lrus } =
    c.reserve.ensures.same in
    let X : ℕ → StateValue → Type 0 = λ p t. EvictFixed p ops c.remove_late.new.self t no_register in
    let e = err_from_is_err_and c.from_residual-in_err-evict_fixed.result c.from_residual-in_err-evict_fixed.ensures.1 in
    rw e.1 (λ lacks. in_fixed c.reserve.new.inst_regs c.remove_late.new.self c.in_ok-sorted.ensures.outcome
    (removes_clobbers c.args.cx.now.clobbers c.reserve.new.inst_regs c.remove_late.new.self c.remove_late.ensures.late c.remove_late.ensures.early
    c.remove_late.ensures.scratch c.remove_late.ensures.awaited)
    (fails_from c.in_ok-sorted.ensures.unused (subst (X (after i)) same
    (subst (λ (p : ℕ). X p (tables_of c.reserve.new.self)) at (c.in_err-evict_fixed.ensures.outcome (sym e.2 ∙ lacks))))))

pub returns-in_err-evict_clobbers-clause-outcome : goal.returns-in_err-evict_clobbers-clause-outcome
returns-in_err-evict_clobbers-clause-outcome g c =
    let ops : List OperandValue = c.args.cx.now.operands.now in
    let i : ℕ = c.args.cx.now.inst in
    let at : c.after-point.result ≡ after i = c.after-point.ensures.point (λ e. omega (arith, c.requires.inst)) in
    let old : StateValue = tables_of c.args.self.now in
    let same : tables_of c.reserve.new.self ≡ record old { lrus = c.reserve.new.self.registers.lrus } =
    c.reserve.ensures.same in
    let F : ℕ → StateValue → Type 0 = λ p t. EvictsFixed p ops c.remove_late.new.self t (length ops) c.evict_fixed.new.inst_regs
    (tables_of c.evict_fixed.new.self) in
    let fixed : F (after i) old = evicts_fixed_from c.in_ok-sorted.ensures.unused (subst (F (after i)) same
    (subst (λ (p : ℕ). F p (tables_of c.reserve.new.self)) at c.in_ok-evict_fixed.ensures.outcome)) in
    let e = err_from_is_err_and c.from_residual-in_err-evict_clobbers.result c.from_residual-in_err-evict_clobbers.ensures.1 in
    rw e.1 (λ lacks. in_clobbers c.reserve.new.inst_regs c.remove_late.new.self c.evict_fixed.new.inst_regs
    (tables_of c.evict_fixed.new.self) c.in_ok-sorted.ensures.outcome (removes_clobbers c.args.cx.now.clobbers c.reserve.new.inst_regs c.remove_late.new.self c.remove_late.ensures.late c.remove_late.ensures.early
    c.remove_late.ensures.scratch c.remove_late.ensures.awaited) fixed
    (subst (λ (p : ℕ). EvictEach p (registers_of c.args.cx.now.clobbers) c.evict_fixed.new.inst_regs
    (tables_of c.evict_fixed.new.self) no_register) at
    (c.in_err-evict_clobbers.ensures.outcome (sym e.2 ∙ lacks))))

pub reserve-requires : goal.reserve-requires
reserve-requires g c = (search rules, c.requires.fresh.awaited)

pub evict_clobbers-requires : goal.evict_clobbers-requires
evict_clobbers-requires g c = (search rules, c.in_ok-evict_fixed.ensures.step.later)

pub returns-clause-sorted : goal.returns-clause-sorted
returns-clause-sorted g c = c.in_ok-sorted.ensures.sorted
