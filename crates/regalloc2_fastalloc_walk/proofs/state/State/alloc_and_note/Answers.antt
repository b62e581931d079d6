use Rattle.std.proofs.Common.{ℕ, ◌-◌, ◌^◌, ◌<◌, not, ◌∙◌, subst, arith, refl, sym}
use Rattle.regalloc2_function.specs.FunctionValue.{FunctionValue}
use Rattle.regalloc2_analysis.specs.LiveRanges.LiveRanges.{IsWanted}
use Rattle.regalloc2_fastalloc_walk.specs.StateView.{tables_of}
use Rattle.regalloc2_fastalloc_walk.proofs.Findings.{found_more, not_false}
use Rattle.regalloc2_fastalloc_proofs.proofs.Debug.ChangesCounted.{unchanged_adds_no_range}
use Rattle.std.proofs.lemmas.Result.{on_ok_weaker, err_from_is_err_and, IfErr-weaker}
use Rattle.regalloc2_fastalloc_walk.proofs.Steps.{outcome_of, on_ok_any, on_ok_both}
use Rattle.regalloc2_fastalloc_walk.proofs.StepsFail.{no_lack}
use Rattle.regalloc2_fastalloc_state.specs.OutOfResources.{IsResourceError}
use Rattle.regalloc2_fastalloc_walk.proofs.state.State.alloc_and_note.Goals as goal

pub returns-clause-found : goal.returns-clause-found
returns-clause-found g c =
    let f : FunctionValue = g.F.Function.function c.args.cx.now.f.now in
    let b = c.requires.inst in
    on_ok_weaker c.note.result (λ both.
    found_more f (IsWanted c.args.self.now.places.watched) c.args.at.inst c.args.found.now c.note.new.self c.in_ok-passes.passes
    (not c.is_unchanged-is_changed.result) b.inst c.requires.found c.in_ok-passes.ensures.passes
    (λ same. let e = c.is_unchanged-is_changed.ensures.0 (not_false c.is_unchanged-is_changed.result same) in
    unchanged_adds_no_range f c.args.block c.args.at.inst c.args.allocs.now c.alloc_inst_in_block.new.allocs (tables_of c.args.self.now)
    (tables_of c.alloc_inst_in_block.new.self) c.in_ok-passes.ensures.outcome (g.met.F.Function.limited c.args.cx.now.f.now) b.well_formed.0
    b.well_formed.1 b.inst c.requires.located (e.0 ∙ c.changes-changes.ensures) (subst (λ (n : ℕ). n < 2 ^ 64 - 1) c.changes-changes.ensures e.1))
    both.0 both.1)
    (on_ok_both c.note.result _ _ c.note.ensures.passes c.note.ensures.changed)

pub alloc_inst_in_block-requires : goal.alloc_inst_in_block-requires
alloc_inst_in_block-requires g c = (omega arith, c.requires.inst)

pub note-requires : goal.note-requires
note-requires g c = let few = (g.met.F.Function.limited c.args.cx.now.f.now).insts in omega (arith, few, c.requires.inst.inst)

pub returns-clause-outcome : goal.returns-clause-outcome
returns-clause-outcome g c = outcome_of c.note.result (on_ok_any c.note.result c.in_ok-passes.ensures.outcome) c.note.ensures.err (λ made. made)
    (λ e memory lacks. no_lack refl memory lacks)

pub returns-clause-step : goal.returns-clause-step
returns-clause-step g c = record {
  machine = c.in_ok-passes.ensures.step.machine;
  later = on_ok_any c.note.result c.in_ok-passes.ensures.step.later;
  long = on_ok_any c.note.result c.in_ok-passes.ensures.step.long;
  err = IfErr-weaker c.note.result _ _ (λ e memory. subst (IsResourceError _) (sym memory) tt) c.note.ensures.err;
}

pub returns-in_err-passes-clause-outcome : goal.returns-in_err-passes-clause-outcome
returns-in_err-passes-clause-outcome g c =
    let e = err_from_is_err_and c.from_residual.result c.from_residual.ensures.1 in
    rw e.1 (λ lacks. c.in_err-passes.ensures.outcome (sym e.2 ∙ lacks))

pub returns-in_err-passes-clause-step : goal.returns-in_err-passes-clause-step
returns-in_err-passes-clause-step g c =
    let e = err_from_is_err_and c.from_residual.result c.from_residual.ensures.1 in
    rw (e.1, e.2) (record { machine = c.in_err-passes.ensures.step.machine; later = tt; long = tt; err = c.in_err-passes.ensures.step.err })
