use Rattle.std.proofs.Common.{ℕ, ◌≡◌, ◌+◌, ◌≤◌, length, refl, inl, inr, sym, ◌∙◌, subst, arith, rules}
use Rattle.std.proofs.lemmas.Result.{err_from_is_err_and, MatchResult-weaker, IfErr-weaker}
use Rattle.regalloc2_names.specs.declared.RegClass.{RegClass}
use Rattle.regalloc2_names.specs.declared.RegClass.TheVariants.{Int, Float, Vector}
use Rattle.regalloc2_names.specs.Place.{before}
use Rattle.regalloc2_function.specs.FunctionValue.{block_at}
use Rattle.regalloc2_fastalloc_proofs.specs.BranchSteps.{MayBeParallel, of_class, LacksMoveReg, in_gather, in_order}
use Rattle.regalloc2_fastalloc_state.specs.OutOfResources.{SlotsExhausted, SlotsExhaustedWith, IsResourceError}
use Rattle.regalloc2_fastalloc_state.specs.ScratchPool.{Moves}
use Rattle.regalloc2_fastalloc_proofs.specs.InstSteps.{StateValue}
use Rattle.regalloc2_fastalloc_walk.specs.StateView.{tables_of}
use Rattle.regalloc2_fastalloc_state.specs.StateParts.{AllAtOrAfter}
use Rattle.regalloc2_fastalloc_proofs.proofs.Branches.ArgMovesAreParallel.{full_before, gathered_below, gathered_sources, adds_no_temp_slots, pushes_at, pushes_long}
use Rattle.regalloc2_fastalloc_proofs.proofs.Safety.StateKept.{adds_temp_slots_trans, adds_temp_slots_refl, adds_temp_slots_of_same_machine, apart_kept}
use Rattle.regalloc2_fastalloc_state.proofs.SpillSlotUnits.{resource_error_weaken}
use Rattle.regalloc2_fastalloc_walk.proofs.NoMovesPassed.{branch_without_arguments}
use Rattle.std.specs.Prelude.{OnOk}
use Rattle.regalloc2_fastalloc_walk.proofs.state.State.process_branch.Goals as goal

-- a branch that passes nothing is done at once
pub returns-then-passes_nothing-clause-outcome : goal.returns-then-passes_nothing-clause-outcome
returns-then-passes_nothing-clause-outcome g c =
    branch_without_arguments (g.F.Function.function c.args.cx.now.f.now) c.args.block c.args.inst_regs.now (tables_of c.args.self.now)
    (c.if-passes_nothing.ensures.0 refl) c.args.inst

pub returns-then-passes_nothing-clause-step : goal.returns-then-passes_nothing-clause-step
returns-then-passes_nothing-clause-step g c = record {
  machine = adds_temp_slots_refl 6 (tables_of c.args.self.now);
  later = c.requires.gathering.later;
  long = refl;
  err = search rules;
}

pub push_gathered-requires : goal.push_gathered-requires
push_gathered-requires g c =
    let f = g.F.Function.function c.args.cx.now.f.now in
    let at : c.before-point.result ≡ before c.args.inst = c.before-point.ensures.point (λ e. omega (arith, c.requires.gathering.inst)) in
    let old : StateValue = tables_of c.args.self.now in
    let m : StateValue = tables_of c.gather.new.self in
    let x = c.in_ok-moves.ensures.outcome in
    let le : m.slots.count ≤ m.slots.count = omega arith in
    let k : ℕ = length (block_at f c.args.block).succs in
    let each : (class : RegClass) (ms : Moves) → ms ≡ of_class class x.0 → MayBeParallel m.slots.count ms = λ class ms is. record {
      ends = gathered_below f c.args.block (before c.args.inst) c.args.inst_regs.now old k c.gather.new.inst_regs m x.0 x.2 class ms is m.slots.count le;
      one_source = gathered_sources f c.args.block (before c.args.inst) c.args.inst_regs.now old k c.gather.new.inst_regs m x.0 x.2 class ms is
          c.requires.differ c.gather.new.self.unshared;
    } in (
      search rules,
      record {
        ints = each Int c.in_ok-moves.moves.int x.1.int;
        floats = each Float c.in_ok-moves.moves.float x.1.float;
        vectors = each Vector c.in_ok-moves.moves.vector x.1.vector;
        apart = apart_kept 0 old m (adds_no_temp_slots old m c.gather.ensures.step.machine) c.requires.apart;
        later = subst (λ (p : ℕ). AllAtOrAfter p c.gather.new.self.edits) (sym at) c.in_ok-moves.ensures.step.later;
      },
    )

pub returns-clause-outcome : goal.returns-clause-outcome
returns-clause-outcome g c =
    let at : c.before-point.result ≡ before c.args.inst = c.before-point.ensures.point (λ e. omega (arith, c.requires.gathering.inst)) in
    let m : StateValue = tables_of c.gather.new.self in
    let x = c.in_ok-moves.ensures.outcome in
    let u = c.gather.new.inst_regs in
    let p : ℕ = c.before-point.result in
    MatchResult-weaker c.push_gathered.result c.push_gathered.ensures.outcome
    (λ v y.
    record {
      given = x.0;
      gathered = m;
      ints = y.after_ints;
      floats = y.after_floats;
      gathers = x.2;
      int = pushes_at p (before c.args.inst) u Int c.in_ok-moves.moves.int (of_class Int x.0) m y.after_ints at x.1.int y.int;
      float = pushes_at p (before c.args.inst) u Float c.in_ok-moves.moves.float (of_class Float x.0) y.after_ints y.after_floats at x.1.float y.float;
      vector = pushes_at p (before c.args.inst) u Vector c.in_ok-moves.moves.vector (of_class Vector x.0) y.after_floats
          (tables_of c.push_gathered.new.self) at x.1.vector y.vector;
    })
    (λ e stops lacks. elim (stops lacks) [
      | inl a ↦ in_order Int u m m x.0 x.2 refl (subst (λ (ms : Moves). LacksMoveReg Int ms m) x.1.int a)
      | inr (inl a) ↦ in_order Float u m m x.0 x.2 refl (subst (λ (ms : Moves). LacksMoveReg Float ms m) x.1.float a)
      | inr (inr a) ↦ in_order Vector u m m x.0 x.2 refl (subst (λ (ms : Moves). LacksMoveReg Vector ms m) x.1.vector a)
    ])

pub returns-clause-step : goal.returns-clause-step
returns-clause-step g c =
    let at : c.before-point.result ≡ before c.args.inst = c.before-point.ensures.point (λ e. omega (arith, c.requires.gathering.inst)) in
    let old : StateValue = tables_of c.args.self.now in
    let b : StateValue = tables_of c.gather.new.self in
    let u = c.gather.new.inst_regs in
    let p : ℕ = c.before-point.result in
    let Full : Type 0 = SlotsExhaustedWith old.slots (old.slots.num_temp_slots + 6) in
    let lends = adds_no_temp_slots old b c.gather.ensures.step.machine in
    record {
      machine = adds_temp_slots_trans 0 6 6 old b (tables_of c.push_gathered.new.self) (omega arith) lends c.push_gathered.ensures.machine;
      later = subst (λ (n : ℕ). OnOk c.push_gathered.result (AllAtOrAfter n c.push_gathered.new.self.edits)) at c.push_gathered.ensures.later;
      long = MatchResult-weaker c.push_gathered.result c.push_gathered.ensures.outcome
          (λ v y. pushes_long p u Vector c.in_ok-moves.moves.vector y.after_floats (tables_of c.push_gathered.new.self) y.vector
          ∙ pushes_long p u Float c.in_ok-moves.moves.float y.after_ints y.after_floats y.float
          ∙ pushes_long p u Int c.in_ok-moves.moves.int (tables_of c.gather.new.self) y.after_ints y.int
          ∙ c.in_ok-moves.ensures.step.long)
          (λ e stops. tt);
      err = IfErr-weaker c.push_gathered.result (IsResourceError (SlotsExhaustedWith b.slots (b.slots.num_temp_slots + 6))) (IsResourceError Full)
          (resource_error_weaken (SlotsExhaustedWith b.slots (b.slots.num_temp_slots + 6)) Full
          (full_before 0 (b.slots.num_temp_slots + 6) 6 old b lends (omega arith)))
          c.push_gathered.ensures.err;
    }

-- what is lacking, wherever the walk stops
pub returns-in_err-moves-clause-step : goal.returns-in_err-moves-clause-step
returns-in_err-moves-clause-step g c =
    let old : StateValue = tables_of c.args.self.now in
    let b : StateValue = tables_of c.gather.new.self in
    let p = err_from_is_err_and c.from_residual.result c.from_residual.ensures.1 in
    let Full : Type 0 = SlotsExhaustedWith old.slots (old.slots.num_temp_slots + 6) in
    rw p.1 (record {
      machine = adds_temp_slots_of_same_machine 6 old b c.gather.ensures.step.machine;
      later = search rules;
      long = search rules;
      err = subst (IsResourceError Full) (sym p.2)
          (resource_error_weaken (SlotsExhausted b.slots) Full (full_before 0 b.slots.num_temp_slots 6 old b (adds_no_temp_slots old b c.gather.ensures.step.machine)
          (omega arith)) _
          c.in_err-moves.ensures.step.err);
    })

-- an argument that can't be spilled
pub returns-in_err-moves-clause-outcome : goal.returns-in_err-moves-clause-outcome
returns-in_err-moves-clause-outcome g c =
    let p = err_from_is_err_and c.from_residual.result c.from_residual.ensures.1 in
    rw p.1 (λ same. in_gather (c.in_err-moves.ensures.outcome (sym p.2 ∙ same)))
