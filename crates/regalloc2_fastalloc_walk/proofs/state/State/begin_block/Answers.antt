use Rattle.std.proofs.Common.{ℕ, ◌≡◌, ◌<◌, List, length, sym, ap, ◌∙◌, subst, rules, arith}
use Rattle.std.specs.Prelude.{All}
use Rattle.std.proofs.lemmas.Result.{err_from_is_err_and, MatchResult-weaker}
use Rattle.regalloc2_index.specs.Range.{Span}
use Rattle.regalloc2_names.specs.Place.{before}
use Rattle.regalloc2_names.specs.Register.{VirtualRegister}
use Rattle.regalloc2_function.specs.FunctionValue.{FunctionValue, block_at}
use Rattle.regalloc2_function.proofs.Following.{end_within}
use Rattle.regalloc2_fastalloc_state.specs.StateParts.{AllAtOrAfter}
use Rattle.regalloc2_fastalloc_proofs.specs.BlockStart.{ReloadsAtBegin, ReloadAtBegin}
use Rattle.regalloc2_fastalloc_proofs.specs.BlockSteps.{DefinesBelow, at_reloads, at_stores}
use Rattle.regalloc2_fastalloc_proofs.specs.InstSteps.{StateValue, no_register}
use Rattle.regalloc2_fastalloc_proofs.proofs.Safety.StateKept.{adds_temp_slots_of_same_machine, apart_kept, params_known}
use Rattle.regalloc2_fastalloc_walk.specs.StateView.{tables_of}
use Rattle.regalloc2_fastalloc_walk.proofs.Steps.{fails_with, step_after}
use Rattle.regalloc2_fastalloc_walk.proofs.state.State.begin_block.Goals as goal

pub first-first-requires : goal.first-first-requires
first-first-requires g c =
    let some = (c.requires.well_formed.1.follow c.args.block c.requires.block).0 in
    subst (λ (r : Span). r.first < r.end) (sym c.block_insns.ensures) some

pub reload_at_begin-requires : goal.reload_at_begin-requires
reload_at_begin-requires g c =
    let f : FunctionValue = g.F.Function.function c.args.cx.now.f.now in
    let b : ℕ = c.args.block in
    let first : c.first-first.result ≡ (block_at f b).range.first = c.first-first.ensures ∙ ap (λ (r : Span). r.first) c.block_insns.ensures in
    let some = (c.requires.well_formed.1.follow b c.requires.block).0 in
    let within = end_within f c.requires.well_formed.1.follow b c.requires.block in
    let few = (g.met.F.Function.limited c.args.cx.now.f.now).insts in (
      search rules,
      (
        omega (arith, first, some, within, few),
        (
          subst (λ (n : ℕ). AllAtOrAfter (before n) c.args.self.now.edits) (sym first) c.requires.later,
          subst (λ (vs : List VirtualRegister). All (λ v. v.number < length c.args.self.now.places.vreg_allocs) vs) (sym c.block_params.ensures)
              (params_known f _ b c.requires.room c.requires.block),
        ),
      ),
    )

pub store_branch_defs-requires : goal.store_branch_defs-requires
store_branch_defs-requires g c =
    let f : FunctionValue = g.F.Function.function c.args.cx.now.f.now in
    let first : c.first-first.result ≡ (block_at f c.args.block).range.first = c.first-first.ensures ∙ ap (λ (r : Span). r.first) c.block_insns.ensures in (
      search rules,
      record {
        block = c.requires.block;
        well_formed = c.requires.well_formed;
        defs = c.requires.defs;
        room = subst (DefinesBelow f) (sym (c.reload_at_begin.new.self.same_long ∙ c.in_ok-reload_at_begin.ensures.step.long)) c.requires.room;
        apart = apart_kept 0 (tables_of c.args.self.now) (tables_of c.reload_at_begin.new.self)
            (adds_temp_slots_of_same_machine 0 (tables_of c.args.self.now) (tables_of c.reload_at_begin.new.self) c.reload_at_begin.ensures.step.machine) c.requires.apart;
        later = subst (λ (n : ℕ). AllAtOrAfter (before n) c.reload_at_begin.new.self.edits) first c.in_ok-reload_at_begin.ensures.step.later;
      },
    )

pub returns-clause-outcome : goal.returns-clause-outcome
returns-clause-outcome g c =
    let f : FunctionValue = g.F.Function.function c.args.cx.now.f.now in
    let old : StateValue = tables_of c.args.self.now in
    let m : StateValue = tables_of c.reload_at_begin.new.self in
    let first : c.first-first.result ≡ (block_at f c.args.block).range.first = c.first-first.ensures ∙ ap (λ (r : Span). r.first) c.block_insns.ensures in
    let reloads : ReloadsAtBegin (before (block_at f c.args.block).range.first) (block_at f c.args.block).params old m =
    subst (λ (n : ℕ). ReloadsAtBegin (before n) (block_at f c.args.block).params old m) first
    (subst (λ (vs : List VirtualRegister). ReloadsAtBegin (before c.first-first.result) vs old m) c.block_params.ensures
    c.in_ok-reload_at_begin.ensures.outcome) in
    MatchResult-weaker c.store_branch_defs.result c.store_branch_defs.ensures.outcome
    (λ v stores. record { middle = m; reloads = reloads; stores = stores }) (λ e stops lacks. at_stores m reloads (stops lacks))

pub returns-clause-step : goal.returns-clause-step
returns-clause-step g c = step_after c.store_branch_defs.result c.args.self.now c.reload_at_begin.new.self c.store_branch_defs.new.self
    c.in_ok-reload_at_begin.ensures.step.machine c.in_ok-reload_at_begin.ensures.step.long c.store_branch_defs.ensures.step

pub returns-in_err-reload_at_begin-clause-outcome : goal.returns-in_err-reload_at_begin-clause-outcome
returns-in_err-reload_at_begin-clause-outcome g c =
    let f : FunctionValue = g.F.Function.function c.args.cx.now.f.now in
    let old : StateValue = tables_of c.args.self.now in
    let first : c.first-first.result ≡ (block_at f c.args.block).range.first = c.first-first.ensures ∙ ap (λ (r : Span). r.first) c.block_insns.ensures in
    let e = err_from_is_err_and c.from_residual.result c.from_residual.ensures.1 in
    rw e.1 (λ lacks. at_reloads (subst (λ (n : ℕ). ReloadAtBegin (before n) (block_at f c.args.block).params old no_register) first
    (subst (λ (vs : List VirtualRegister). ReloadAtBegin (before c.first-first.result) vs old no_register) c.block_params.ensures
    (c.in_err-reload_at_begin.ensures.outcome (sym e.2 ∙ lacks)))))

pub block_insns-requires : goal.block_insns-requires
block_insns-requires g c = c.requires.block

pub block_params-requires : goal.block_params-requires
block_params-requires g c = c.requires.block

-- the machine stays, wherever the walk stops
pub returns-in_err-reload_at_begin-clause-step : goal.returns-in_err-reload_at_begin-clause-step
returns-in_err-reload_at_begin-clause-step g c =
    let e = err_from_is_err_and c.from_residual.result c.from_residual.ensures.1 in
    fails_with c.from_residual.result c.args.self.now c.reload_at_begin.new.self e.1 e.2 c.in_err-reload_at_begin.ensures.step.machine c.in_err-reload_at_begin.ensures.step.err
