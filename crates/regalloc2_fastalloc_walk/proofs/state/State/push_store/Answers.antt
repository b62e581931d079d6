use Rattle.std.proofs.Common.{ℕ, ◌≡◌, ◌++◌, ◌∷◌, [], List, true, false, refl, sym, ap, ◌∙◌, append_assoc, rules}
use Rattle.std.specs.Prelude.{None, Some}
use Rattle.regalloc2_names.specs.Place.{Place, is_on_stack}
use Rattle.regalloc2_function.specs.OutputValue.{MoveValue}
use Rattle.regalloc2_fastalloc_proofs.specs.InstSteps.{StateValue}
use Rattle.regalloc2_fastalloc_proofs.specs.StoreSteps.{pushed_moves}
use Rattle.regalloc2_fastalloc_walk.specs.StateView.{tables_of}
use Rattle.std.proofs.lemmas.Result.{err_from_is_err_and}
use Rattle.regalloc2_fastalloc_walk.proofs.StepsFail.{fails_as, fails_for_memory, no_lack, step_lacks}
use Rattle.regalloc2_fastalloc_walk.proofs.state.State.push_store.Goals as goal

-- from a register
pub returns-then-not-is_stack-clause-outcome : goal.returns-then-not-is_stack-clause-outcome
unfolding pushed_moves
returns-then-not-is_stack-clause-outcome g c =
    let t : StateValue = tables_of c.args.self.now in
    let flat : is_on_stack t.fixed_stack c.args.m.from ≡ false = sym c.is_stack.ensures ∙ c.if-not-is_stack.true in (
      record { from = c.args.m.from; by = None; to = c.args.m.to },
      record {
        from = refl;
        to = refl;
        direct = λ e. refl;
        by_way = record { direct = λ e. flat; through = λ q e. absurd cc };
      },
      ap (λ (es : List (ℕ × MoveValue)). record t { edits = es }) c.in_ok-push.ensures.ok,
    )

-- from the stack
pub returns-clause-outcome : goal.returns-clause-outcome
unfolding pushed_moves
returns-clause-outcome g c =
    let t : StateValue = tables_of c.args.self.now in
    let by : Place = c.reg-by.result in
    let there : is_on_stack t.fixed_stack c.args.m.from ≡ true = sym c.is_stack.ensures ∙ c.if-not-is_stack.false in
    let first : ℕ × MoveValue = (c.args.point, record { from = by; to = c.args.m.to }) in
    let second : ℕ × MoveValue = (c.args.point, record { from = c.args.m.from; to = by }) in (
      record { from = c.args.m.from; by = Some by; to = c.args.m.to },
      record {
        from = refl;
        to = refl;
        direct = λ e. absurd (let x : true ≡ false = sym there ∙ e in cc);
        by_way = record {
          direct = λ e. absurd cc;
          through = λ q e. (let same : by ≡ q = cc in (c.in_ok-store_scratch.field-0, sym same ∙ c.reg-by.ensures, c.in_ok-store_scratch.ensures.ok));
        };
      },
      ap (λ (es : List (ℕ × MoveValue)). record t { edits = es })
          (c.in_ok-push-3.ensures.ok ∙ ap (λ (es : List (ℕ × MoveValue)). es ++ second ∷ []) c.in_ok-push-2.ensures.ok
          ∙ append_assoc t.edits (first ∷ []) (second ∷ [])),
    )

pub push-requires : goal.push-requires
push-requires g c = c.requires

pub push-requires-2 : goal.push-requires-2
push-requires-2 g c = c.requires

pub push-requires-3 : goal.push-requires-3
push-requires-3 g c = c.in_ok-push-2.ensures.later

pub returns-then-not-is_stack-clause-step : goal.returns-then-not-is_stack-clause-step
returns-then-not-is_stack-clause-step g c = record {
  machine = record { allocatable = refl; fixed_stack = refl; dedicated_scratch = refl; sizes = refl; vregs = refl; num_temp_slots = refl };
  later = c.in_ok-push.ensures.later;
  long = refl;
  err = search rules;
}

pub returns-clause-step : goal.returns-clause-step
returns-clause-step g c = record {
  machine = record { allocatable = refl; fixed_stack = refl; dedicated_scratch = refl; sizes = refl; vregs = refl; num_temp_slots = refl };
  later = c.in_ok-push-3.ensures.later;
  long = refl;
  err = search rules;
}

-- there is no register
pub returns-in_err-store_scratch-clause-outcome : goal.returns-in_err-store_scratch-clause-outcome
returns-in_err-store_scratch-clause-outcome g c =
    let e = err_from_is_err_and c.from_residual-in_err-store_scratch.result c.from_residual-in_err-store_scratch.ensures.1 in
    rw e.1 (λ lacks. c.in_err-store_scratch.ensures.err.1)

pub returns-in_err-store_scratch-clause-step : goal.returns-in_err-store_scratch-clause-step
returns-in_err-store_scratch-clause-step g c =
    let e = err_from_is_err_and c.from_residual-in_err-store_scratch.result c.from_residual-in_err-store_scratch.ensures.1 in
    fails_as c.from_residual-in_err-store_scratch.result c.args.self.now c.args.self.now e.1 (e.2 ∙ c.in_err-store_scratch.ensures.err.0)
    (step_lacks {T = Unit {0}} {point = c.args.point} c.args.self.now)

-- there is no memory
pub returns-in_err-push-clause-outcome : goal.returns-in_err-push-clause-outcome
returns-in_err-push-clause-outcome g c =
    let e = err_from_is_err_and c.from_residual.result c.from_residual.ensures.1 in
    rw e.1 (λ lacks. no_lack e.2 c.in_err-push.ensures.err lacks)

pub returns-in_err-push-clause-step : goal.returns-in_err-push-clause-step
returns-in_err-push-clause-step g c =
    let e = err_from_is_err_and c.from_residual.result c.from_residual.ensures.1 in
    fails_for_memory c.from_residual.result c.args.self.now _ e.1 e.2 c.in_err-push.ensures.err
    (record { allocatable = refl; fixed_stack = refl; dedicated_scratch = refl; sizes = refl; vregs = refl; num_temp_slots = refl })

pub returns-in_err-push-2-clause-outcome : goal.returns-in_err-push-2-clause-outcome
returns-in_err-push-2-clause-outcome g c =
    let e = err_from_is_err_and c.from_residual-in_err-push-2.result c.from_residual-in_err-push-2.ensures.1 in
    rw e.1 (λ lacks. no_lack e.2 c.in_err-push-2.ensures.err lacks)

pub returns-in_err-push-2-clause-step : goal.returns-in_err-push-2-clause-step
returns-in_err-push-2-clause-step g c =
    let e = err_from_is_err_and c.from_residual-in_err-push-2.result c.from_residual-in_err-push-2.ensures.1 in
    fails_for_memory c.from_residual-in_err-push-2.result c.args.self.now _ e.1 e.2 c.in_err-push-2.ensures.err
    (record { allocatable = refl; fixed_stack = refl; dedicated_scratch = refl; sizes = refl; vregs = refl; num_temp_slots = refl })

pub returns-in_err-push-3-clause-outcome : goal.returns-in_err-push-3-clause-outcome
returns-in_err-push-3-clause-outcome g c =
    let e = err_from_is_err_and c.from_residual-in_err-push-3.result c.from_residual-in_err-push-3.ensures.1 in
    rw e.1 (λ lacks. no_lack e.2 c.in_err-push-3.ensures.err lacks)

pub returns-in_err-push-3-clause-step : goal.returns-in_err-push-3-clause-step
returns-in_err-push-3-clause-step g c =
    let e = err_from_is_err_and c.from_residual-in_err-push-3.result c.from_residual-in_err-push-3.ensures.1 in
    fails_for_memory c.from_residual-in_err-push-3.result c.args.self.now _ e.1 e.2 c.in_err-push-3.ensures.err
    (record { allocatable = refl; fixed_stack = refl; dedicated_scratch = refl; sizes = refl; vregs = refl; num_temp_slots = refl })
