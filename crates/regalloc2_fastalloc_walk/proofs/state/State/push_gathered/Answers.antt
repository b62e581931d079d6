use Rattle.std.proofs.Common.{◌≡◌, ◌+◌, ◌≤◌, ◌∙◌, inl, inr, refl, sym, subst, arith, rules}
use Rattle.std.proofs.lemmas.Result.{err_from_is_err_and, MatchResult-weaker, IfErr-weaker}
use Rattle.regalloc2_names.specs.declared.RegClass.{RegClass}
use Rattle.regalloc2_names.specs.declared.RegClass.TheVariants.{Int, Float, Vector}
use Rattle.regalloc2_fastalloc_state.specs.ScratchPool.{Moves}
use Rattle.regalloc2_fastalloc_state.specs.StateParts.{NoneIsFrom}
use Rattle.regalloc2_fastalloc_proofs.specs.BranchSteps.{LacksMoveReg}
use Rattle.regalloc2_fastalloc_state.specs.OutOfResources.{SlotsExhaustedWith, IsResourceError}
use Rattle.regalloc2_fastalloc_proofs.specs.InstSteps.{StateValue}
use Rattle.regalloc2_fastalloc_walk.specs.StateView.{tables_of}
use Rattle.regalloc2_fastalloc_proofs.proofs.Branches.ArgMovesAreParallel.{between_more, full_before, adds_temp_slots_same, adds_temp_slots_add, pushes_grow}
use Rattle.regalloc2_fastalloc_proofs.proofs.Safety.StateKept.{apart_kept, adds_temp_slots_refl, adds_temp_slots_trans}
use Rattle.regalloc2_fastalloc_state.proofs.SpillSlotUnits.{resource_error_weaken}
use Rattle.regalloc2_fastalloc_walk.proofs.state.State.push_gathered.Goals as goal

pub push_moves-requires : goal.push_moves-requires
push_moves-requires g c =
    let old : StateValue = tables_of c.args.self.now in
    (search rules, (search rules, record { parallel = c.requires.ints; apart = c.requires.apart; later = c.requires.later }))

pub push_moves-requires-2 : goal.push_moves-requires-2
push_moves-requires-2 g c =
    let old : StateValue = tables_of c.args.self.now in
    let g1 = pushes_grow c.args.point c.args.inst_regs.now Int c.args.moves.int (tables_of c.args.self.now) (tables_of c.push_moves.new.self)
    c.in_ok-push_moves.ensures.outcome in
    let le : old.slots.count ≤ c.push_moves.new.self.slots.count = omega (arith, g1) in (
      search rules,
      (
        search rules,
        record {
          parallel = record {
            ends = between_more old.slots.count c.push_moves.new.self.slots.count c.args.moves.float le c.requires.floats.ends;
            one_source = c.requires.floats.one_source;
          };
          apart = apart_kept (0 + 2) old (tables_of c.push_moves.new.self)
              (adds_temp_slots_add (0) 2 old (tables_of c.args.self.now) (tables_of c.push_moves.new.self) (adds_temp_slots_same 0 old old refl) c.push_moves.ensures.machine)
              c.requires.apart;
          later = c.in_ok-push_moves.ensures.later;
        },
      ),
    )

pub push_moves-requires-3 : goal.push_moves-requires-3
push_moves-requires-3 g c =
    let old : StateValue = tables_of c.args.self.now in
    let g1 = pushes_grow c.args.point c.args.inst_regs.now Int c.args.moves.int (tables_of c.args.self.now) (tables_of c.push_moves.new.self)
    c.in_ok-push_moves.ensures.outcome in
    let g2 = pushes_grow c.args.point c.args.inst_regs.now Float c.args.moves.float (tables_of c.push_moves.new.self) (tables_of c.push_moves-2.new.self)
    c.in_ok-push_moves-2.ensures.outcome in
    let le : old.slots.count ≤ c.push_moves-2.new.self.slots.count = omega (arith, g1, g2) in (
      search rules,
      (
        search rules,
        record {
          parallel = record {
            ends = between_more old.slots.count c.push_moves-2.new.self.slots.count c.args.moves.vector le c.requires.vectors.ends;
            one_source = c.requires.vectors.one_source;
          };
          apart = apart_kept (0 + 2 + 2) old (tables_of c.push_moves-2.new.self)
              (adds_temp_slots_add (0 + 2) 2 old (tables_of c.push_moves.new.self) (tables_of c.push_moves-2.new.self)
              (adds_temp_slots_add (0) 2 old (tables_of c.args.self.now) (tables_of c.push_moves.new.self) (adds_temp_slots_same 0 old old refl) c.push_moves.ensures.machine)
              c.push_moves-2.ensures.machine) c.requires.apart;
          later = c.in_ok-push_moves-2.ensures.later;
        },
      ),
    )

-- a register that a later class lacks was lacking before
lacks_before : (class : RegClass) (ms : Moves) (a b : StateValue) → b.allocatable ≡ a.allocatable → LacksMoveReg class ms b → LacksMoveReg class ms a
lacks_before class ms a b same h = (h.0, subst (λ set. NoneIsFrom set class 0) same h.1)

pub returns-clause-outcome : goal.returns-clause-outcome
returns-clause-outcome g c = MatchResult-weaker c.push_moves-3.result c.push_moves-3.ensures.outcome
    (λ v pushes. record {
      after_ints = tables_of c.push_moves.new.self;
      after_floats = tables_of c.push_moves-2.new.self;
      int = c.in_ok-push_moves.ensures.outcome;
      float = c.in_ok-push_moves-2.ensures.outcome;
      vector = pushes;
    })
    (λ e stops lacks. inr (inr (lacks_before Vector c.args.moves.vector (tables_of c.args.self.now) (tables_of c.push_moves-2.new.self)
    (c.push_moves-2.ensures.machine.allocatable ∙ c.push_moves.ensures.machine.allocatable) (stops lacks))))

-- what is lacking, wherever the walk stops
pub returns-in_err-push_moves-clause-err : goal.returns-in_err-push_moves-clause-err
returns-in_err-push_moves-clause-err g c =
    let old : StateValue = tables_of c.args.self.now in
    let b : StateValue = tables_of c.args.self.now in
    let p = err_from_is_err_and c.from_residual.result c.from_residual.ensures.1 in
    let Full : Type 0 = SlotsExhaustedWith old.slots (old.slots.num_temp_slots + 6) in
    rw p.1 (subst (IsResourceError Full) (sym p.2)
    (resource_error_weaken (SlotsExhaustedWith b.slots (b.slots.num_temp_slots + 2)) Full
    (full_before (0) (b.slots.num_temp_slots + 2) 6 old b (adds_temp_slots_same 0 old old refl) (omega arith)) _ c.in_err-push_moves.ensures.err))

pub returns-in_err-push_moves-2-clause-err : goal.returns-in_err-push_moves-2-clause-err
returns-in_err-push_moves-2-clause-err g c =
    let old : StateValue = tables_of c.args.self.now in
    let b : StateValue = tables_of c.push_moves.new.self in
    let p = err_from_is_err_and c.from_residual-in_err-push_moves-2.result c.from_residual-in_err-push_moves-2.ensures.1 in
    let Full : Type 0 = SlotsExhaustedWith old.slots (old.slots.num_temp_slots + 6) in
    rw p.1 (subst (IsResourceError Full) (sym p.2)
    (resource_error_weaken (SlotsExhaustedWith b.slots (b.slots.num_temp_slots + 2)) Full
    (full_before (0 + 2) (b.slots.num_temp_slots + 2) 4 old b (adds_temp_slots_add (0) 2 old (tables_of c.args.self.now) (tables_of c.push_moves.new.self)
    (adds_temp_slots_same 0 old old refl) c.push_moves.ensures.machine) (omega arith)) _ c.in_err-push_moves-2.ensures.err))

-- temporary slots are added at most
pub returns-clause-machine : goal.returns-clause-machine
returns-clause-machine g c = adds_temp_slots_trans 4 2 6 (tables_of c.args.self.now) (tables_of c.push_moves-2.new.self) (tables_of c.push_moves-3.new.self)
    (omega arith) (adds_temp_slots_trans 2 2 4 (tables_of c.args.self.now) (tables_of c.push_moves.new.self) (tables_of c.push_moves-2.new.self) (omega arith)
    c.push_moves.ensures.machine c.push_moves-2.ensures.machine) c.push_moves-3.ensures.machine

pub returns-in_err-push_moves-clause-machine : goal.returns-in_err-push_moves-clause-machine
returns-in_err-push_moves-clause-machine g c = adds_temp_slots_trans 2 0 6 (tables_of c.args.self.now) (tables_of c.push_moves.new.self)
    (tables_of c.push_moves.new.self) (omega arith) c.push_moves.ensures.machine (adds_temp_slots_refl 0 (tables_of c.push_moves.new.self))

pub returns-in_err-push_moves-2-clause-machine : goal.returns-in_err-push_moves-2-clause-machine
returns-in_err-push_moves-2-clause-machine g c = adds_temp_slots_trans 2 2 6 (tables_of c.args.self.now) (tables_of c.push_moves.new.self)
    (tables_of c.push_moves-2.new.self) (omega arith) c.push_moves.ensures.machine c.push_moves-2.ensures.machine

pub returns-in_err-push_moves-clause-outcome : goal.returns-in_err-push_moves-clause-outcome
returns-in_err-push_moves-clause-outcome g c =
    let p = err_from_is_err_and c.from_residual.result c.from_residual.ensures.1 in
    rw p.1 (λ lacks. inl (c.in_err-push_moves.ensures.outcome (sym p.2 ∙ lacks)))

pub returns-in_err-push_moves-2-clause-outcome : goal.returns-in_err-push_moves-2-clause-outcome
returns-in_err-push_moves-2-clause-outcome g c =
    let p = err_from_is_err_and c.from_residual-in_err-push_moves-2.result c.from_residual-in_err-push_moves-2.ensures.1 in
    rw p.1 (λ lacks. inr (inl (lacks_before Float c.args.moves.float (tables_of c.args.self.now) (tables_of c.push_moves.new.self)
    c.push_moves.ensures.machine.allocatable (c.in_err-push_moves-2.ensures.outcome (sym p.2 ∙ lacks)))))

pub returns-clause-err : goal.returns-clause-err
returns-clause-err g c =
    let old : StateValue = tables_of c.args.self.now in
    let b : StateValue = tables_of c.push_moves-2.new.self in
    let Full : Type 0 = SlotsExhaustedWith old.slots (old.slots.num_temp_slots + 6) in
    IfErr-weaker c.push_moves-3.result (IsResourceError (SlotsExhaustedWith b.slots (b.slots.num_temp_slots + 2))) (IsResourceError Full)
    (resource_error_weaken (SlotsExhaustedWith b.slots (b.slots.num_temp_slots + 2)) Full
    (full_before (0 + 2 + 2) (b.slots.num_temp_slots + 2) 2 old b (adds_temp_slots_add (0 + 2) 2 old (tables_of c.push_moves.new.self)
    (tables_of c.push_moves-2.new.self) (adds_temp_slots_add (0) 2 old (tables_of c.args.self.now) (tables_of c.push_moves.new.self) (adds_temp_slots_same 0 old old refl)
    c.push_moves.ensures.machine) c.push_moves-2.ensures.machine) (omega arith)))
    c.push_moves-3.ensures.err

pub returns-clause-later : goal.returns-clause-later
returns-clause-later g c = c.push_moves-3.ensures.later
