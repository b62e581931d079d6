use Rattle.std.proofs.Common.{◌++◌, ◌∷◌, [], refl, sym, ◌∙◌, subst, arith, rules}
use Rattle.std.proofs.lemmas.Result.{err_from_is_err_and}
use Rattle.regalloc2_names.specs.declared.RegClass.{RegClass}
use Rattle.regalloc2_fastalloc_proofs.specs.BranchSteps.{AreOf, ClassMove}
use Rattle.regalloc2_fastalloc_proofs.proofs.Branches.ArgMovesAreParallel.{spilled_argument_in_slot}
use Rattle.regalloc2_fastalloc_walk.specs.StateView.{tables_of}
use Rattle.regalloc2_fastalloc_proofs.specs.InstSteps.{SameMachine}
use Rattle.regalloc2_fastalloc_proofs.proofs.Evictions.PushedAndRemoved.{same_machine_trans}
use Rattle.regalloc2_fastalloc_walk.proofs.Steps.{fails_with, outcome_of}
use Rattle.regalloc2_fastalloc_walk.proofs.StepsFail.{no_lack, fails_only_for_memory}
use Rattle.regalloc2_fastalloc_walk.proofs.Clashes.{slots_are_no_registers}
use Rattle.regalloc2_fastalloc_walk.proofs.state.State.gather_argument.Goals as goal

pub get_spillslot-requires : goal.get_spillslot-requires
get_spillslot-requires g c = omega (arith, c.requires.param, c.args.self.now.same_long)

pub add-requires : goal.add-requires
add-requires g c =
    let s = spilled_argument_in_slot c.args.point c.args.argument c.in_ok-from.from c.args.inst_regs.now c.spill_argument.new.inst_regs
    (record (tables_of c.args.self.now) { slots = c.get_spillslot.new.self }) (tables_of c.spill_argument.new.self) c.in_ok-from.ensures.outcome in
    record { from = s.1; to = c.in_ok-to.ensures.ok.there }

pub returns-clause-outcome : goal.returns-clause-outcome
returns-clause-outcome g c =
    let one : RegClass → ClassMove = λ k. record { class = k; from = c.in_ok-from.from; to = c.in_ok-to.to } in
    outcome_of c.add.result c.add.ensures.ok c.add.ensures.err
    (λ adds. (
      c.in_ok-to.to,
      c.in_ok-from.from,
      record {
        middle = record (tables_of c.args.self.now) { slots = c.get_spillslot.new.self };
        slot = c.in_ok-to.ensures.ok;
        places = refl;
        edits = refl;
        lrus = refl;
        machine = record {
          allocatable = refl;
          fixed_stack = refl;
          dedicated_scratch = refl;
          sizes = c.get_spillslot.ensures.sizes;
          vregs = c.get_spillslot.ensures.vregs;
          num_temp_slots = c.get_spillslot.ensures.num_temp_slots;
        };
        spills = c.in_ok-from.ensures.outcome;
      },
      λ given is. subst (λ (k : RegClass). AreOf c.add.new.self.int c.add.new.self.float c.add.new.self.vector (given ++ one k ∷ [])) c.class.ensures
          (adds given is),
    ))
    (λ e memory lacks. no_lack refl memory lacks)

pub returns-in_err-from-clause-outcome : goal.returns-in_err-from-clause-outcome
returns-in_err-from-clause-outcome g c =
    let e = err_from_is_err_and c.from_residual-in_err-from.result c.from_residual-in_err-from.ensures.1 in
    rw e.1 (λ same. (
      record (tables_of c.args.self.now) { slots = c.get_spillslot.new.self },
      refl,
      record {
        allocatable = refl;
        fixed_stack = refl;
        dedicated_scratch = refl;
        sizes = c.get_spillslot.ensures.sizes;
        vregs = c.get_spillslot.ensures.vregs;
        num_temp_slots = c.get_spillslot.ensures.num_temp_slots;
      },
      c.in_err-from.ensures.outcome (sym e.2 ∙ same),
    ))

-- there is no slot
pub returns-in_err-to-clause-outcome : goal.returns-in_err-to-clause-outcome
returns-in_err-to-clause-outcome g c =
    let e = err_from_is_err_and c.from_residual.result c.from_residual.ensures.1 in
    rw e.1 (λ lacks. slots_are_no_registers (sym c.in_err-to.ensures.full.0 ∙ sym e.2 ∙ lacks))

pub returns-in_err-to-clause-step : goal.returns-in_err-to-clause-step
returns-in_err-to-clause-step g c =
    let e = err_from_is_err_and c.from_residual.result c.from_residual.ensures.1 in
    fails_with c.from_residual.result c.args.self.now _ e.1 e.2
    (record {
      allocatable = refl;
      fixed_stack = refl;
      dedicated_scratch = refl;
      sizes = c.get_spillslot.ensures.sizes;
      vregs = c.get_spillslot.ensures.vregs;
      num_temp_slots = c.get_spillslot.ensures.num_temp_slots;
    })
    c.in_err-to.ensures.lack

-- a slot leaves the machine
pub spill_argument-requires : goal.spill_argument-requires
spill_argument-requires g c = (search rules, (c.requires.later, c.requires.argument))

pub returns-in_err-from-clause-step : goal.returns-in_err-from-clause-step
returns-in_err-from-clause-step g c =
    let e = err_from_is_err_and c.from_residual-in_err-from.result c.from_residual-in_err-from.ensures.1 in
    let made : SameMachine (tables_of c.args.self.now) (record (tables_of c.args.self.now) { slots = c.get_spillslot.new.self }) = record {
      allocatable = refl;
      fixed_stack = refl;
      dedicated_scratch = refl;
      sizes = c.get_spillslot.ensures.sizes;
      vregs = c.get_spillslot.ensures.vregs;
      num_temp_slots = c.get_spillslot.ensures.num_temp_slots;
    } in
    fails_with c.from_residual-in_err-from.result c.args.self.now c.spill_argument.new.self e.1 e.2
    (same_machine_trans _ _ _ made c.in_err-from.ensures.step.machine) c.in_err-from.ensures.step.err

pub returns-clause-step : goal.returns-clause-step
returns-clause-step g c =
    let made : SameMachine (tables_of c.args.self.now) (record (tables_of c.args.self.now) { slots = c.get_spillslot.new.self }) = record {
      allocatable = refl;
      fixed_stack = refl;
      dedicated_scratch = refl;
      sizes = c.get_spillslot.ensures.sizes;
      vregs = c.get_spillslot.ensures.vregs;
      num_temp_slots = c.get_spillslot.ensures.num_temp_slots;
    } in
    fails_only_for_memory c.add.result c.args.self.now c.spill_argument.new.self (same_machine_trans _ _ _ made c.in_ok-from.ensures.step.machine)
    c.in_ok-from.ensures.step.long c.in_ok-from.ensures.step.later c.add.ensures.err
