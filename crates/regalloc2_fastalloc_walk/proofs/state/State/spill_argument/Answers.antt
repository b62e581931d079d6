use Rattle.std.proofs.Common.{◌≡◌, refl, sym, ap, ◌∙◌, arith, rules}
use Rattle.regalloc2_names.specs.Place.{InRegister, register_of_place}
use Rattle.regalloc2_fastalloc_proofs.specs.BranchSteps.{from_register, in_slot}
use Rattle.regalloc2_fastalloc_proofs.specs.InstSteps.{StateValue, SameMachine}
use Rattle.regalloc2_fastalloc_proofs.proofs.Evictions.PushedAndRemoved.{same_machine_trans}
use Rattle.regalloc2_fastalloc_state.proofs.SlotsAsPlaces.{slot_is_no_register}
use Rattle.std.proofs.lemmas.Result.{err_from_is_err_and}
use Rattle.regalloc2_fastalloc_walk.specs.StateView.{tables_of}
use Rattle.regalloc2_carry.proofs.Forms.{place_of_register}
use Rattle.regalloc2_fastalloc_walk.proofs.Steps.{fails_with}
use Rattle.regalloc2_fastalloc_walk.proofs.Clashes.{none_is_not_some_of, slots_are_no_registers}
use Rattle.regalloc2_fastalloc_walk.proofs.state.State.spill_argument.Goals as goal

pub get_spillslot-requires : goal.get_spillslot-requires
get_spillslot-requires g c = omega (arith, c.requires.known, c.args.self.now.same_long)

pub set_alloc-requires-clause-vreg : goal.set_alloc-requires-clause-vreg
set_alloc-requires-clause-vreg g c = c.requires.known

-- a slot is no register
pub set_alloc-requires-clause-alone : goal.set_alloc-requires-clause-alone
set_alloc-requires-clause-alone g c = λ r e. absurd (slot_is_no_register c.args.self.now.slots c.get_spillslot.new.self c.args.argument c.in_ok-slot.slot r
    c.in_ok-slot.ensures.ok c.get_spillslot.ensures.owned e)

-- the argument was in no register
pub returns-clause-outcome : goal.returns-clause-outcome
returns-clause-outcome g c = in_slot
    (λ r is. absurd (
    let at : c.current_alloc.result ≡ InRegister r = c.current_alloc.ensures.place ∙ is in
    none_is_not_some_of (sym c.in_default.is ∙ c.as_reg.ensures ∙ ap register_of_place at)))
    c.in_ok-slot.ensures.ok c.set_alloc.ensures.settled refl
    (record {
      allocatable = refl;
      fixed_stack = refl;
      dedicated_scratch = refl;
      sizes = c.get_spillslot.ensures.sizes;
      vregs = c.get_spillslot.ensures.vregs;
      num_temp_slots = c.get_spillslot.ensures.num_temp_slots;
    }) refl refl

pub returns-clause-step : goal.returns-clause-step
returns-clause-step g c = record {
  machine = record {
    allocatable = refl;
    fixed_stack = refl;
    dedicated_scratch = refl;
    sizes = c.get_spillslot.ensures.sizes;
    vregs = c.get_spillslot.ensures.vregs;
    num_temp_slots = c.get_spillslot.ensures.num_temp_slots;
  };
  later = c.requires.later;
  long = c.set_alloc.ensures.settled.long;
  err = search rules;
}

pub returns-in-Some-clause-outcome : goal.returns-in-Some-clause-outcome
returns-in-Some-clause-outcome g c =
    let e : c.current_alloc.result ≡ InRegister c.in-Some.preg = place_of_register c.current_alloc.result c.in-Some.preg
    (sym c.as_reg.ensures ∙ c.in-Some.is) in
    let m : StateValue = record (tables_of c.args.self.now) { slots = c.get_spillslot.new.self } in
    from_register c.in-Some.preg m (sym c.current_alloc.ensures.place ∙ e) c.in_ok-slot.ensures.ok refl refl
    (record {
      allocatable = refl;
      fixed_stack = refl;
      dedicated_scratch = refl;
      sizes = c.get_spillslot.ensures.sizes;
      vregs = c.get_spillslot.ensures.vregs;
      num_temp_slots = c.get_spillslot.ensures.num_temp_slots;
    }) refl c.in_ok-evict_preg.ensures.outcome

pub returns-in_err-evict_preg-clause-outcome : goal.returns-in_err-evict_preg-clause-outcome
returns-in_err-evict_preg-clause-outcome g c =
    let e = err_from_is_err_and c.from_residual-in_err-evict_preg.result c.from_residual-in_err-evict_preg.ensures.1 in
    rw e.1 (λ same. record {
      register = c.in-Some.preg;
      middle = record (tables_of c.args.self.now) { slots = c.get_spillslot.new.self };
      places = refl;
      machine = record {
        allocatable = refl;
        fixed_stack = refl;
        dedicated_scratch = refl;
        sizes = c.get_spillslot.ensures.sizes;
        vregs = c.get_spillslot.ensures.vregs;
        num_temp_slots = c.get_spillslot.ensures.num_temp_slots;
      };
      stops = c.in_err-evict_preg.ensures.outcome (sym e.2 ∙ same);
    })

-- the slot leaves the machine
pub returns-in-Some-clause-step : goal.returns-in-Some-clause-step
returns-in-Some-clause-step g c =
    let made : SameMachine (tables_of c.args.self.now) (record (tables_of c.args.self.now) { slots = c.get_spillslot.new.self }) = record {
      allocatable = refl;
      fixed_stack = refl;
      dedicated_scratch = refl;
      sizes = c.get_spillslot.ensures.sizes;
      vregs = c.get_spillslot.ensures.vregs;
      num_temp_slots = c.get_spillslot.ensures.num_temp_slots;
    } in
    record {
      machine = same_machine_trans _ _ _ made c.in_ok-evict_preg.ensures.step.machine;
      later = c.in_ok-evict_preg.ensures.step.later;
      long = c.in_ok-evict_preg.ensures.step.long;
      err = search rules;
    }

pub evict_preg-requires : goal.evict_preg-requires
evict_preg-requires g c = (search rules, c.requires.later)

-- there is no slot
pub returns-in_err-slot-clause-outcome : goal.returns-in_err-slot-clause-outcome
returns-in_err-slot-clause-outcome g c =
    let e = err_from_is_err_and c.from_residual.result c.from_residual.ensures.1 in
    rw e.1 (λ lacks. slots_are_no_registers (sym c.in_err-slot.ensures.full.0 ∙ sym e.2 ∙ lacks))

pub returns-in_err-slot-clause-step : goal.returns-in_err-slot-clause-step
returns-in_err-slot-clause-step g c =
    let e = err_from_is_err_and c.from_residual.result c.from_residual.ensures.1 in
    fails_with c.from_residual.result c.args.self.now _ e.1 e.2
    (record {
      allocatable = refl;
      fixed_stack = refl;
      dedicated_scratch = refl;
      sizes = c.get_spillslot.ensures.sizes;
      vregs = c.get_spillslot.ensures.vregs;
      num_temp_slots = c.get_spillslot.ensures.num_temp_slots;
    })
    c.in_err-slot.ensures.lack

pub returns-in_err-evict_preg-clause-step : goal.returns-in_err-evict_preg-clause-step
returns-in_err-evict_preg-clause-step g c =
    let e = err_from_is_err_and c.from_residual-in_err-evict_preg.result c.from_residual-in_err-evict_preg.ensures.1 in
    let made : SameMachine (tables_of c.args.self.now) (record (tables_of c.args.self.now) { slots = c.get_spillslot.new.self }) = record {
      allocatable = refl;
      fixed_stack = refl;
      dedicated_scratch = refl;
      sizes = c.get_spillslot.ensures.sizes;
      vregs = c.get_spillslot.ensures.vregs;
      num_temp_slots = c.get_spillslot.ensures.num_temp_slots;
    } in
    fails_with c.from_residual-in_err-evict_preg.result c.args.self.now c.evict_preg.new.self e.1 e.2
    (same_machine_trans _ _ _ made c.in_err-evict_preg.ensures.step.machine) c.in_err-evict_preg.ensures.step.err
