use Rattle.std.proofs.Common.{ℕ, List, ◌++◌, ap, ◌∙◌, refl, sym, subst, arith, length}
use Rattle.regalloc2_function.specs.OutputValue.{MoveValue}
use Rattle.regalloc2_fastalloc_state.specs.ScratchPool.{Moves, pushed}
use Rattle.regalloc2_fastalloc_proofs.specs.InstSteps.{StateValue}
use Rattle.regalloc2_fastalloc_walk.specs.StateView.{tables_of}
use Rattle.regalloc2_fastalloc_walk.proofs.Steps.{outcome_of}
use Rattle.regalloc2_fastalloc_walk.proofs.StepsFail.{no_lack}
use Rattle.regalloc2_names.specs.Place.{Place}
use Rattle.std.proofs.lemmas.Result.{err_from_is_err_and, IfErr-weaker}
use Rattle.regalloc2_fastalloc_proofs.specs.BranchSteps.{AddsTempSlotsAtMost}
use Rattle.regalloc2_fastalloc_proofs.proofs.Safety.StateKept.{adds_temp_slots_refl}
use Rattle.regalloc2_fastalloc_state.specs.OutOfResources.{IsResourceError}
use Rattle.regalloc2_fastalloc_walk.proofs.state.State.push_some.Goals as goal

pub returns-clause-outcome : goal.returns-clause-outcome
returns-clause-outcome g c =
    let middle : StateValue = tables_of c.order.new.self in
    outcome_of c.push_all.result c.push_all.ensures.ok c.push_all.ensures.err
    (λ pushes. record {
      made = c.in_ok-made.made.items;
      middle = middle;
      orders = c.in_ok-made.ensures.outcome;
      pushes = ap (λ (es : List (ℕ × MoveValue)). record middle { edits = es })
          (pushes ∙ ap (λ (ms : Moves). middle.edits ++ pushed c.args.point ms) c.as_slice.ensures);
    })
    (λ e memory lacks. no_lack refl memory lacks)

pub returns-clause-machine : goal.returns-clause-machine
returns-clause-machine g c =
    let o = c.in_ok-made.ensures.outcome in
    let lends = o.lends in
    record {
      allocatable = o.allocatable;
      fixed_stack = o.fixed_stack;
      dedicated_scratch = o.dedicated_scratch;
      sizes = lends.2.sizes;
      vregs = ap (λ (ps : List Place). length ps) lends.2.vreg_spillslots;
      num_temp_slots = omega (arith, lends.2.num_temp_slots, lends.1);
    }

pub returns-clause-err : goal.returns-clause-err
returns-clause-err g c = IfErr-weaker c.push_all.result _ _ (λ e memory. subst (IsResourceError _) (sym memory) tt) c.push_all.ensures.err

pub returns-in_err-made-clause-outcome : goal.returns-in_err-made-clause-outcome
returns-in_err-made-clause-outcome g c =
    let e = err_from_is_err_and c.from_residual.result c.from_residual.ensures.1 in
    rw e.1 (λ lacks. c.in_err-made.ensures.outcome (sym e.2 ∙ lacks))

pub returns-in_err-made-clause-machine : goal.returns-in_err-made-clause-machine
returns-in_err-made-clause-machine g c =
    let t : StateValue = tables_of c.args.self.now in
    subst (λ (u : StateValue). AddsTempSlotsAtMost 2 t u) (sym c.in_err-made.ensures.unchanged) (adds_temp_slots_refl 2 t)

pub returns-in_err-made-clause-err : goal.returns-in_err-made-clause-err
returns-in_err-made-clause-err g c =
    let e = err_from_is_err_and c.from_residual.result c.from_residual.ensures.1 in rw (e.1, e.2) c.in_err-made.ensures.err
