use Rattle.std.proofs.Common.{◌≡◌, [], refl, sym, subst, inl, inr, ⊎_elim, ◌+◌, rules}
use Rattle.regalloc2_fastalloc_walk.proofs.Steps.{outcome_of}
use Rattle.regalloc2_names.specs.declared.RegAllocError.TheVariants.{Memory}
use Rattle.regalloc2_names.specs.Register.{Register}
use Rattle.regalloc2_fastalloc_state.specs.InstRegs.{IsAvailableAt}
use Rattle.regalloc2_fastalloc_state.specs.declared.positions.Positions.{Positions}
use Rattle.regalloc2_fastalloc_state.specs.ScratchPool.{Moves}
use Rattle.regalloc2_fastalloc_proofs.specs.BranchSteps.{MayBeScratch, Pushes, AddsTempSlotsAtMost}
use Rattle.regalloc2_fastalloc_proofs.specs.InstSteps.{StateValue}
use Rattle.regalloc2_fastalloc_proofs.proofs.Moves.OneMove.{pushes_one}
use Rattle.regalloc2_fastalloc_proofs.proofs.Safety.StateKept.{adds_temp_slots_refl, adds_temp_slots_of_same_machine}
use Rattle.regalloc2_fastalloc_walk.proofs.NoMovesPassed.{pushes_no_moves}
use Rattle.regalloc2_fastalloc_walk.specs.StateView.{tables_of}
use Rattle.std.specs.Prelude.{Result, Ok, Err, OnOk}
use Rattle.std.proofs.lemmas.Result.{IfErr-weaker}
use Rattle.regalloc2_fastalloc_state.specs.OutOfResources.{IsResourceError, SlotsExhaustedWith}
use Rattle.regalloc2_fastalloc_state.specs.StateParts.{SpillSlotsValue}
use Rattle.regalloc2_fastalloc_walk.proofs.StepsFail.{no_lack}
use Rattle.regalloc2_fastalloc_walk.proofs.state.State.push_moves.Goals as goal

-- no moves of the class
pub returns-then-is_empty-clause-outcome : goal.returns-then-is_empty-clause-outcome
returns-then-is_empty-clause-outcome g c =
    let t : StateValue = tables_of c.args.self.now in
    let none : c.args.moves ≡ [] = c.if-is_empty.ensures.0 refl in
    subst (λ (ms : Moves). Pushes c.args.point c.args.inst_regs.now c.args.class ms t t) (sym none)
    (pushes_no_moves c.args.point c.args.inst_regs.now c.args.class t)

pub returns-then-is_empty-clause-machine : goal.returns-then-is_empty-clause-machine
returns-then-is_empty-clause-machine g c = adds_temp_slots_refl 2 (tables_of c.args.self.now)

-- one move, and a scratch register
pub returns-in-Some-first_scratch-clause-outcome : goal.returns-in-Some-first_scratch-clause-outcome
returns-in-Some-first_scratch-clause-outcome g c =
    let t : StateValue = tables_of c.args.self.now in
    let by : Register = c.in-Some-first_scratch.by in
    let scratch : MayBeScratch c.args.inst_regs.now t c.args.class by = ⊎_elim
    (λ own. inl own)
    (λ f. inr (
      record { of_class = f.of_class; small = f.small; allocatable = f.allocatable },
      subst (λ (p : Positions). IsAvailableAt c.args.inst_regs.now p by) c.both.ensures (c.available_pregs.ensures.free by f.free_there),
    ))
    c.in-Some-first_scratch.ensures.found in
    outcome_of c.push_one.result c.push_one.ensures.ok c.push_one.ensures.err
    (pushes_one c.args.inst_regs.now c.args.class t (tables_of c.push_one.new.self) c.args.moves _ _ by c.args.point c.in-Some.ensures.one.1 c.requires.parallel.ends
    c.requires.apart scratch c.push_one.ensures.rest)
    (λ e memory lacks. no_lack refl memory lacks)

-- several moves, or no scratch register
pub returns-clause-outcome : goal.returns-clause-outcome
returns-clause-outcome g c = c.push_some.ensures.outcome

pub returns-clause-later : goal.returns-clause-later
returns-clause-later g c = c.push_some.ensures.later

pub returns-clause-machine : goal.returns-clause-machine
returns-clause-machine g c = c.push_some.ensures.machine

pub returns-clause-err : goal.returns-clause-err
returns-clause-err g c = c.push_some.ensures.err

pub push_one-requires : goal.push_one-requires
push_one-requires g c = (search rules, c.requires.later)

pub returns-then-is_empty-clause-later : goal.returns-then-is_empty-clause-later
returns-then-is_empty-clause-later g c = c.requires.later

-- what holds anyway holds where a call succeeds
on_ok : {T E P : Type 0} (r : Result T E) → P → OnOk r P
on_ok (Ok x) p = p
on_ok (Err e) p = tt

pub returns-in-Some-first_scratch-clause-later : goal.returns-in-Some-first_scratch-clause-later
returns-in-Some-first_scratch-clause-later g c = on_ok c.push_one.result c.push_one.ensures.later

pub returns-in-Some-first_scratch-clause-machine : goal.returns-in-Some-first_scratch-clause-machine
returns-in-Some-first_scratch-clause-machine g c =
    let t : StateValue = tables_of c.args.self.now in
    subst (AddsTempSlotsAtMost 2 t) (sym c.push_one.ensures.rest) (adds_temp_slots_of_same_machine 2 t (record t { edits = c.push_one.new.self.edits })
    (record { allocatable = refl; fixed_stack = refl; dedicated_scratch = refl; sizes = refl; vregs = refl; num_temp_slots = refl }))

pub returns-in-Some-first_scratch-clause-err : goal.returns-in-Some-first_scratch-clause-err
returns-in-Some-first_scratch-clause-err g c =
    let s : SpillSlotsValue = c.args.self.now.slots in
    IfErr-weaker c.push_one.result (λ e. e ≡ Memory) (IsResourceError (SlotsExhaustedWith s (s.num_temp_slots + 2)))
    (λ e is. subst (IsResourceError (SlotsExhaustedWith s (s.num_temp_slots + 2))) (sym is) tt) c.push_one.ensures.err
