use Rattle.std.proofs.Common.{◌≡◌, ◌+◌, [], refl, sym, ap, ◌∙◌, subst, arith}
use Rattle.std.proofs.lemmas.Result.{err_from_is_err_and}
use Rattle.regalloc2_names.specs.Place.{Place}
use Rattle.regalloc2_parts.specs.Resolved.{moves_listed, has_scratch, with_place}
use Rattle.regalloc2_parts.specs.declared.scratch_pool.ScratchPool.{ScratchPool}
use Rattle.regalloc2_fastalloc_state.specs.OutOfResources.{IsResourceError, SlotsExhaustedWith}
use Rattle.regalloc2_parts.specs.ScratchPool.{HasTooFewSlots, error_of}
use Rattle.regalloc2_fastalloc_proofs.specs.InstSteps.{StateValue, MayHold}
use Rattle.regalloc2_fastalloc_walk.specs.StateView.{tables_of}
use Rattle.regalloc2_fastalloc_proofs.proofs.Moves.ParallelMovesOrdered.{GivenMoves, orders, orders_none, serves_given, short_full, taken_fits}
use Rattle.regalloc2_fastalloc_state.proofs.SpillSlotUnits.{lacks_slots, no_register, slots_of_fault}
use Rattle.regalloc2_fastalloc_walk.proofs.Clashes.{not_both}
use Rattle.regalloc2_fastalloc_walk.proofs.StepsFail.{no_lack}
use Rattle.regalloc2_fastalloc_walk.proofs.state.State.order.Goals as goal

pub returns-then-are_none-clause-outcome : goal.returns-then-are_none-clause-outcome
returns-then-are_none-clause-outcome g c =
    orders_none c.args.inst_regs.now c.args.class (tables_of c.args.self.now) c.args.moves (moves_listed c.in_ok-resolved.resolved) c.with_scratch.result.items
    (has_scratch c.in_ok-resolved.resolved) c.in_ok-resolved.ensures.resolved ((c.if-are_none.ensures.none.0 refl))
    (c.with_scratch.ensures.items ∙ ap (λ (p : Place). with_place p c.in_ok-resolved.resolved) c.none.ensures ∙ c.if-are_none.ensures.same refl)

pub compute-requires : goal.compute-requires
compute-requires g c =
    let l : ScratchPool = record {
      registers = c.scratch_regs.result;
      slots = c.temp_slots.result;
      fixed_stack = c.fixed_stack.result;
      borrowed = c.in-Some.borrowed;
    } in
    let old : StateValue = tables_of c.args.self.now in
    let held : MayHold old c.args.class c.in-Some.borrowed = record {
      of_class = c.in-Some.ensures.found.0;
      small = c.in-Some.ensures.found.1;
      allocatable = c.in-Some.ensures.found.2;
    } in
    let moves : GivenMoves = record {
      inst_regs = c.args.inst_regs.now;
      class = c.args.class;
      old = old;
      l = l;
      given = c.args.moves;
      apart = c.requires.apart;
      between = c.requires.ends;
      scratch_reserve = c.scratch_regs.ensures.scratch_reserve;
      differ = c.scratch_regs.ensures.differ;
      next = c.temp_slots.ensures;
      fixed = c.fixed_stack.ensures;
      borrowed = held;
    } in (
      omega arith,
      (
        serves_given moves (has_scratch c.in_ok-resolved.resolved) (moves_listed c.in_ok-resolved.resolved) c.in_ok-resolved.ensures.resolved,
        c.in_ok-resolved.ensures.runnable,
      ),
    )

pub returns-in_err-made-clause-err : goal.returns-in_err-made-clause-err
returns-in_err-made-clause-err g c =
    let s = c.args.self.now.slots in
    let p = err_from_is_err_and c.from_residual-in_err-made.result c.from_residual-in_err-made.ensures.1 in
    rw p.1 (subst (IsResourceError (SlotsExhaustedWith s (s.num_temp_slots + 2))) (sym p.2)
    (lacks_slots (HasTooFewSlots c.temp_slots.result) (SlotsExhaustedWith s (s.num_temp_slots + 2))
    (short_full s c.args.class c.temp_slots.result c.temp_slots.ensures) _
    (slots_of_fault (HasTooFewSlots c.temp_slots.result) _ c.in_err-made.ensures.err)))

pub add_temp_slots-requires-clause-room : goal.add_temp_slots-requires-clause-room
add_temp_slots-requires-clause-room g c = taken_fits c.args.self.now.slots c.args.class c.temp_slots.result c.temp_slots.ensures c.in_ok-made.made.slots
    c.in_ok-made.ensures.there

pub returns-clause-outcome : goal.returns-clause-outcome
returns-clause-outcome g c =
    let l : ScratchPool = record {
      registers = c.scratch_regs.result;
      slots = c.temp_slots.result;
      fixed_stack = c.fixed_stack.result;
      borrowed = c.in-Some.borrowed;
    } in
    let s = c.args.self.now in
    let old : StateValue = tables_of s in
    let new : StateValue = record {
      places = s.places;
      slots = c.add_temp_slots.new.self;
      edits = s.edits;
      allocatable = s.registers.allocatable;
      fixed_stack = s.registers.fixed_stack;
      dedicated_scratch = s.registers.dedicated_scratch;
      lrus = s.registers.lrus;
    } in
    let held : MayHold old c.args.class c.in-Some.borrowed = record {
      of_class = c.in-Some.ensures.found.0;
      small = c.in-Some.ensures.found.1;
      allocatable = c.in-Some.ensures.found.2;
    } in
    let moves : GivenMoves = record {
      inst_regs = c.args.inst_regs.now;
      class = c.args.class;
      old = old;
      l = l;
      given = c.args.moves;
      apart = c.requires.apart;
      between = c.requires.ends;
      scratch_reserve = c.scratch_regs.ensures.scratch_reserve;
      differ = c.scratch_regs.ensures.differ;
      next = c.temp_slots.ensures;
      fixed = c.fixed_stack.ensures;
      borrowed = held;
    } in
    orders moves (record {
      new = new;
      taken = c.in_ok-made.made.slots;
      lends = c.add_temp_slots.ensures.added;
      few = c.in_ok-made.ensures.there.0;
      scratch = has_scratch c.in_ok-resolved.resolved;
      listed = moves_listed c.in_ok-resolved.resolved;
      made = c.in_ok-made.made.moves.items;
      is = c.in_ok-resolved.ensures.resolved;
      made_so = c.in_ok-made.ensures.made;
    })
    refl refl refl refl refl refl
    (λ none. let short : moves_listed c.in_ok-resolved.resolved ≡ [] = c.in_ok-resolved.ensures.resolved.short (rw none (omega arith)) ∙ none in
    not_both (c.are_none.ensures.none.1 short) c.if-are_none.false)

-- moves of a class that has no allocatable register
pub returns-in_default-clause-outcome : goal.returns-in_default-clause-outcome
returns-in_default-clause-outcome g c = λ lacks. (
  λ none. let short : moves_listed c.in_ok-resolved.resolved ≡ [] = c.in_ok-resolved.ensures.resolved.short (rw none (omega arith)) ∙ none in
      not_both (c.are_none.ensures.none.1 short) c.if-are_none.false,
  c.in_default.ensures.none,
)

pub returns-in_err-made-clause-outcome : goal.returns-in_err-made-clause-outcome
returns-in_err-made-clause-outcome g c =
    let p = err_from_is_err_and c.from_residual-in_err-made.result c.from_residual-in_err-made.ensures.1 in
    rw p.1 (λ same. absurd (no_register (HasTooFewSlots c.temp_slots.result) _
    (slots_of_fault (HasTooFewSlots c.temp_slots.result) _ c.in_err-made.ensures.err) (sym p.2 ∙ same)))

pub add_temp_slots-requires-clause-few : goal.add_temp_slots-requires-clause-few
add_temp_slots-requires-clause-few g c = c.in_ok-made.ensures.there.0

-- memory is out
pub returns-in_err-resolved-clause-outcome : goal.returns-in_err-resolved-clause-outcome
returns-in_err-resolved-clause-outcome g c =
    let p = err_from_is_err_and c.from_residual.result c.from_residual.ensures.1 in
    rw p.1 (λ lacks. no_lack p.2 (ap error_of c.in_err-resolved.ensures.memory) lacks)

pub returns-in_err-resolved-clause-err : goal.returns-in_err-resolved-clause-err
returns-in_err-resolved-clause-err g c =
    let s = c.args.self.now.slots in
    let p = err_from_is_err_and c.from_residual.result c.from_residual.ensures.1 in
    rw p.1 (subst (IsResourceError (SlotsExhaustedWith s (s.num_temp_slots + 2))) (sym (p.2 ∙ ap error_of c.in_err-resolved.ensures.memory)) tt)
