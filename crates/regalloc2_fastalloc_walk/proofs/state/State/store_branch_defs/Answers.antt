use Rattle.std.proofs.Common.{ℕ, ◌≡◌, ◌<◌, List, true, false, inl, length, refl, sym, ap, ◌∙◌, subst, arith, rules}
use Rattle.std.specs.Prelude.{All, Contains}
use Rattle.std.proofs.lemmas.List.Elements.{All-weaker}
use Rattle.std.proofs.lemmas.Result.{err_from_is_err_and, MatchResult-weaker}
use Rattle.regalloc2_index.specs.Range.{Span}
use Rattle.regalloc2_names.specs.Operand.{OperandValue}
use Rattle.regalloc2_names.specs.Place.{before}
use Rattle.regalloc2_names.specs.Register.{VirtualRegister}
use Rattle.regalloc2_function.specs.FunctionValue.{FunctionValue, block_at, inst_at, op_at}
use Rattle.regalloc2_function.specs.OutputValue.{MoveValue}
use Rattle.regalloc2_function.proofs.Following.{end_within}
use Rattle.regalloc2_analysis.specs.BranchDefs.BranchDefs.{IsEdgeInto}
use Rattle.regalloc2_analysis.proofs.BranchDefsLemmas.BlockEnds.{last_within}
use Rattle.regalloc2_fastalloc_state.specs.StateParts.{AllAtOrAfter, NoneIsFrom, SpillSlotsValue}
use Rattle.regalloc2_fastalloc_proofs.specs.BlockSteps.{DefinesBelow, MayBeAllocated}
use Rattle.regalloc2_fastalloc_proofs.specs.InstSteps.{StateValue, SameMachine}
use Rattle.regalloc2_fastalloc_proofs.specs.StoreSteps.{IsStoredFor, StoresOn, all_stored, branch_operands}
use Rattle.regalloc2_fastalloc_proofs.proofs.Safety.StateKept.{made_below}
use Rattle.regalloc2_fastalloc_proofs.proofs.Safety.StoredDefs.{concerned_made}
use Rattle.regalloc2_fastalloc_proofs.proofs.Safety.StoresKeepSafe.{stored_concerned, stored_defines}
use Rattle.regalloc2_fastalloc_walk.specs.BranchStores.{FindsStores, LacksStoreReg, PushesStores}
use Rattle.regalloc2_fastalloc_walk.specs.StateView.{IsStepAt, tables_of}
use Rattle.regalloc2_fastalloc_walk.specs.declared.store.StoreMove.{StoreMove}
use Rattle.regalloc2_fastalloc_walk.specs.declared.store.StoredDef.{StoredDef}
use Rattle.regalloc2_fastalloc_walk.proofs.Steps.{fails_with, step_after}
use Rattle.regalloc2_fastalloc_walk.proofs.StoresOnEdge.{edge_stores, stores_on, stores_lack}
use Rattle.regalloc2_fastalloc_walk.proofs.StepsFail.{fails_for_memory, no_lack, same_machine}
use Rattle.regalloc2_fastalloc_walk.proofs.state.State.store_branch_defs.Goals as goal

-- the stores are for vregs of the function, and of operands of the branch
module _ (f : FunctionValue) (well : MayBeAllocated f) (b e k : ℕ) (edge : IsEdgeInto f b e k) (slots : SpillSlotsValue) where
  number_small : (n : ℕ) → DefinesBelow f n → (j : ℕ) (v : VirtualRegister) → IsStoredFor f e k slots j v → v.number < n
  number_small n room j v is = made_below f n room v
      (concerned_made f well.1.successors well.1.follow b e k v edge (stored_concerned f e k slots j v is))

  operand_small : (n : ℕ) → DefinesBelow f n → (j : ℕ) (v : VirtualRegister) → IsStoredFor f e k slots j v → (op_at (branch_operands f e) j).vreg.number < n
  operand_small n room j v is =
      let o : OperandValue = op_at (branch_operands f e) j in
      made_below f n room o.vreg (concerned_made f well.1.successors well.1.follow b e k o.vreg edge (inl (
        j,
        stored_defines f e k slots j v
            is,
        refl,
      )))

  operand_within : (j : ℕ) (v : VirtualRegister) → IsStoredFor f e k slots j v → j < length (branch_operands f e)
  operand_within j v is = (stored_defines f e k slots j v is).operand

-- slots that are made leave the machine as it is
made_machine : (t u : StateValue) (s : SpillSlotsValue) → u ≡ record t { slots = s } → SameMachine t u → SameMachine t (record t { slots = s })
made_machine t u s is same = subst (SameMachine t) is same

pub inst_operands-requires : goal.inst_operands-requires
inst_operands-requires g c =
    let f : FunctionValue = g.F.Function.function c.args.f.now in
    let ie = c.requires.defs.edge c.args.block c.in-Some.edge (sym c.edge_into.ensures ∙ c.in-Some.is) in
    subst (λ (n : ℕ). n < length f.insts) (sym ie.branch) (last_within f c.requires.well_formed c.in-Some.edge.from ie.edge.block)

pub store_moves-requires : goal.store_moves-requires
store_moves-requires g c =
    let f : FunctionValue = g.F.Function.function c.args.f.now in
    let ie = c.requires.defs.edge c.args.block c.in-Some.edge (sym c.edge_into.ensures ∙ c.in-Some.is) in
    let e : ℕ = c.in-Some.edge.from in
    let k : ℕ = c.in-Some.edge.position in
    let slots : SpillSlotsValue = c.args.self.now.slots in
    let ops : c.inst_operands.result.now ≡ branch_operands f e = c.inst_operands.ensures ∙ ap (λ (n : ℕ). (inst_at f n).operands) ie.branch in
    let lists = c.in_ok-stores.ensures.ok in
    let n : ℕ = length slots.vreg_spillslots in
    let S : StoredDef → Type 0 = λ s. IsStoredFor f e k slots s.index s.to in
    let there : All S c.deref.result.now = subst (λ (l : List StoredDef). All S l) (sym c.deref.ensures.value) lists.each in (
      search rules,
      (
        All-weaker S (λ s. s.index < length c.inst_operands.result.now) (λ s is.
            subst (λ (l : List OperandValue). s.index < length l) (sym ops) (operand_within f c.requires.well_formed c.args.block e k ie.edge slots s.index
            s.to is))
            c.deref.result.now there,
        (
          All-weaker S (λ s. (op_at c.inst_operands.result.now s.index).vreg.number < length slots.vreg_spillslots) (λ s is.
              subst (λ (l : List OperandValue). (op_at l s.index).vreg.number < n) (sym ops)
              (operand_small f c.requires.well_formed c.args.block e k ie.edge slots n c.requires.room s.index s.to is)) c.deref.result.now there,
          All-weaker S (λ s. s.to.number < n) (λ s is.
              number_small f c.requires.well_formed c.args.block e k ie.edge slots n c.requires.room s.index s.to is) c.deref.result.now there,
        ),
      ),
    )

pub first-requires : goal.first-requires
first-requires g c =
    let some = (c.requires.well_formed.1.follow c.args.block c.requires.block).0 in
    subst (λ (r : Span). r.first < r.end) (sym c.block_insns.ensures) some

pub before-point-requires : goal.before-point-requires
before-point-requires g c =
    let f : FunctionValue = g.F.Function.function c.args.f.now in
    let first : c.first.result ≡ (block_at f c.args.block).range.first = c.first.ensures ∙ ap (λ (r : Span). r.first) c.block_insns.ensures in
    let some = (c.requires.well_formed.1.follow c.args.block c.requires.block).0 in
    let within = end_within f c.requires.well_formed.1.follow c.args.block c.requires.block in
    let few = (g.met.F.Function.limited c.args.f.now).insts in omega (arith, first, some, within, few)

pub push_all_stores-requires : goal.push_all_stores-requires
push_all_stores-requires g c =
    let f : FunctionValue = g.F.Function.function c.args.f.now in
    let first : c.first.result ≡ (block_at f c.args.block).range.first = c.first.ensures ∙ ap (λ (r : Span). r.first) c.block_insns.ensures in
    let some = (c.requires.well_formed.1.follow c.args.block c.requires.block).0 in
    let within = end_within f c.requires.well_formed.1.follow c.args.block c.requires.block in
    let few = (g.met.F.Function.limited c.args.f.now).insts in
    let at : c.before-point.result ≡ before (block_at f c.args.block).range.first = c.before-point.ensures.point (λ e. omega (arith, first, some, within, few, e)) ∙ ap before first in (
      search rules,
      subst (λ (p : ℕ). AllAtOrAfter p c.store_moves.new.self.edits) (sym at)
          (subst (λ (es : List (ℕ × MoveValue)). AllAtOrAfter (before (block_at f c.args.block).range.first) es)
          (sym (ap (λ (t : StateValue). t.edits) c.store_moves.ensures.step.tables)) c.requires.later),
    )

-- a lack of registers in later tables, for moves that are the same
lack_before : (t u : StateValue) → SameMachine t u → (ms ns : List StoreMove) → ns ≡ ms → LacksStoreReg u ns → LacksStoreReg t ms
lack_before t u same ms ns is h = (
  h.0,
  subst (λ (l : List StoreMove). Contains l h.0) is h.1,
  subst (λ set. NoneIsFrom set h.0.class 0) same.allocatable h.2,
)

pub returns-clause-outcome : goal.returns-clause-outcome
returns-clause-outcome g c =
    let f : FunctionValue = g.F.Function.function c.args.f.now in
    let ie = c.requires.defs.edge c.args.block c.in-Some.edge (sym c.edge_into.ensures ∙ c.in-Some.is) in
    let e : ℕ = c.in-Some.edge.from in
    let old : StateValue = tables_of c.args.self.now in
    let t : StateValue = tables_of c.store_moves.new.self in
    let ds : List StoredDef = c.in_ok-stores.stores.items in
    let ms : List StoreMove = c.in_ok-moves.moves.items in
    let slots : SpillSlotsValue = c.store_moves.new.self.slots in
    let ops : c.inst_operands.result.now ≡ branch_operands f e = c.inst_operands.ensures ∙ ap (λ (n : ℕ). (inst_at f n).operands) ie.branch in
    let finds : FindsStores (branch_operands f e) ds old.slots (length ds) ms slots =
    subst (λ (l : List OperandValue). FindsStores l ds old.slots (length ds) ms slots) ops
    (subst (λ (l : List StoredDef). FindsStores c.inst_operands.result.now l old.slots (length l) ms slots) c.deref.ensures.value c.in_ok-moves.ensures.ok) in
    let w : StateValue = tables_of c.push_all_stores.new.self in
    let k : ℕ = c.in-Some.edge.position in
    let point : ℕ = c.before-point.result in
    let tables : t ≡ record old { slots = slots } = c.store_moves.ensures.step.tables in
    let same : c.deref-2.result.now ≡ ms = c.deref-2.ensures.value in
    let stores = edge_stores f c.requires.well_formed c.args.block e k ie.edge old c.requires.apart ds c.in_ok-stores.ensures.ok ms slots finds
    c.store_moves.new.self.unshared in
    let first : c.first.result ≡ (block_at f c.args.block).range.first = c.first.ensures ∙ ap (λ (r : Span). r.first) c.block_insns.ensures in
    let some = (c.requires.well_formed.1.follow c.args.block c.requires.block).0 in
    let within = end_within f c.requires.well_formed.1.follow c.args.block c.requires.block in
    let few = (g.met.F.Function.limited c.args.f.now).insts in
    let at : point ≡ before (block_at f c.args.block).range.first = c.before-point.ensures.point (λ e. omega (arith, first, some, within, few, e)) ∙ ap before first in
    MatchResult-weaker c.push_all_stores.result c.push_all_stores.ensures.outcome
    (λ v pushes.
    let p : PushesStores point true ms (record old { slots = slots }) pushes.0 = subst (λ (x : StateValue). PushesStores point true ms x pushes.0) tables
    (subst (λ (l : List StoreMove). PushesStores point true l t pushes.0) same pushes.1) in
    let q : PushesStores point false ms pushes.0 w = subst (λ (l : List StoreMove). PushesStores point false l pushes.0 w) same pushes.2 in
    all_stored e k ie.edge (subst (λ (n : ℕ). StoresOn f e k n old w) at
    (stores_on stores (made_machine old t slots tables c.store_moves.ensures.step.machine) p q)))
    (λ d stops lacks. stores_lack stores (lack_before old t c.store_moves.ensures.step.machine ms c.deref-2.result.now same (stops lacks)))

pub returns-clause-step : goal.returns-clause-step
returns-clause-step g c =
    let f : FunctionValue = g.F.Function.function c.args.f.now in
    let first : c.first.result ≡ (block_at f c.args.block).range.first = c.first.ensures ∙ ap (λ (r : Span). r.first) c.block_insns.ensures in
    let some = (c.requires.well_formed.1.follow c.args.block c.requires.block).0 in
    let within = end_within f c.requires.well_formed.1.follow c.args.block c.requires.block in
    let few = (g.met.F.Function.limited c.args.f.now).insts in
    let at : c.before-point.result ≡ before (block_at f c.args.block).range.first = c.before-point.ensures.point (λ e. omega (arith, first, some, within, few, e)) ∙ ap before first in
    subst (λ (n : ℕ). IsStepAt n c.push_all_stores.result c.args.self.now c.push_all_stores.new.self) at
    (step_after c.push_all_stores.result c.args.self.now c.store_moves.new.self c.push_all_stores.new.self c.store_moves.ensures.step.machine
    (ap (λ (x : StateValue). length x.places.vreg_allocs) c.store_moves.ensures.step.tables) c.push_all_stores.ensures.step)

pub list_stores-requires : goal.list_stores-requires
list_stores-requires g c = (
  omega arith,
  record {
    well_formed = c.requires.well_formed;
    defs = c.requires.defs;
    edge = (c.args.block, c.requires.defs.edge c.args.block c.in-Some.edge (sym c.edge_into.ensures ∙ c.in-Some.is));
    room = c.requires.room;
  },
)

pub returns-in_err-moves-clause-outcome : goal.returns-in_err-moves-clause-outcome
returns-in_err-moves-clause-outcome g c =
    let r = err_from_is_err_and c.from_residual-in_err-moves.result c.from_residual-in_err-moves.ensures.1 in
    rw r.1 (λ lacks. absurd (c.in_err-moves.ensures.step.err.1 (sym r.2 ∙ lacks)))

pub returns-in_err-moves-clause-step : goal.returns-in_err-moves-clause-step
returns-in_err-moves-clause-step g c =
    let r = err_from_is_err_and c.from_residual-in_err-moves.result c.from_residual-in_err-moves.ensures.1 in
    fails_with c.from_residual-in_err-moves.result c.args.self.now c.store_moves.new.self r.1 r.2 c.store_moves.ensures.step.machine
    c.in_err-moves.ensures.step.err.0

pub returns-in_err-stores-clause-outcome : goal.returns-in_err-stores-clause-outcome
returns-in_err-stores-clause-outcome g c =
    let r = err_from_is_err_and c.from_residual.result c.from_residual.ensures.1 in
    rw r.1 (λ lacks. no_lack r.2 c.in_err-stores.ensures.err lacks)

pub returns-in_err-stores-clause-step : goal.returns-in_err-stores-clause-step
returns-in_err-stores-clause-step g c =
    let r = err_from_is_err_and c.from_residual.result c.from_residual.ensures.1 in
    fails_for_memory c.from_residual.result c.args.self.now c.args.self.now r.1 r.2 c.in_err-stores.ensures.err (same_machine (tables_of c.args.self.now))
