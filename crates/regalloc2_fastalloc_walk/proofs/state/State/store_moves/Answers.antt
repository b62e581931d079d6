use Rattle.std.proofs.Common.{ℕ, ◌≡◌, ◌+◌, ◌<◌, List, length, refl, sym, ap, ◌∙◌, subst, arith, rules, slice_index_or}
use Rattle.std.proofs.lemmas.List.{get_or_read}
use Rattle.std.proofs.lemmas.List.Elements.{All-get_or}
use Rattle.regalloc2_names.specs.Operand.{OperandValue}
use Rattle.regalloc2_names.specs.Register.{VirtualRegister}
use Rattle.regalloc2_function.specs.FunctionValue.{op_at, no_operand}
use Rattle.regalloc2_fastalloc_proofs.specs.InstSteps.{StateValue}
use Rattle.regalloc2_fastalloc_proofs.proofs.Evictions.PushedAndRemoved.{same_machine_trans}
use Rattle.regalloc2_fastalloc_walk.specs.BranchStores.{FindsStore, FindsStores, no_store, none_found, one_found}
use Rattle.regalloc2_fastalloc_walk.specs.StateView.{tables_of}
use Rattle.regalloc2_fastalloc_walk.specs.declared.store.StoreMove.{StoreMove}
use Rattle.regalloc2_fastalloc_walk.specs.declared.store.StoredDef.{StoredDef}
use Rattle.std.proofs.lemmas.Result.{err_from_is_err_and}
use Rattle.regalloc2_fastalloc_walk.proofs.state.State.store_moves.Goals as goal

pub loop-store-init : goal.loop-store-init
loop-store-init g c = record {
  finds = subst (λ (ms : List StoreMove). FindsStores c.args.operands.now c.args.stores.now c.args.self.now.slots 0 ms c.args.self.now.slots)
      (sym c.new-moves.ensures.items) none_found;
  tables = refl;
  machine = record { allocatable = refl; fixed_stack = refl; dedicated_scratch = refl; sizes = refl; vregs = refl; num_temp_slots = refl };
}

pub store_move-requires : goal.store_move-requires
store_move-requires g c =
    let ds : List StoredDef = c.args.stores.now in
    let ops : List OperandValue = c.args.operands.now in
    let k : ℕ = c.loop-store.store-index in
    let item : c.store-item.result ≡ slice_index_or ds k no_store = get_or_read ds k c.store-item.result c.loop-store-test.true c.store-item.is no_store in
    let inside : c.store-item.result.index < length ops = subst (λ (d : StoredDef). d.index < length ops) (sym item)
    (All-get_or (λ (d : StoredDef). d.index < length ops) ds k no_store c.loop-store-test.true c.requires.inside) in
    let operand : c.index-operands-store.result ≡ op_at ops c.store-item.result.index = get_or_read ops c.store-item.result.index c.index-operands-store.result
    inside c.index-operands-store.is no_operand in
    let long = c.loop-store.invariant.machine.vregs in
    let from = All-get_or (λ (d : StoredDef). (op_at ops d.index).vreg.number < length c.args.self.now.slots.vreg_spillslots) ds k no_store
    c.loop-store-test.true
    c.requires.from in
    let to = All-get_or (λ (d : StoredDef). d.to.number < length c.args.self.now.slots.vreg_spillslots) ds k no_store c.loop-store-test.true c.requires.to in (
      search rules,
      (
        subst (λ (o : OperandValue). o.vreg.number < length c.loop-store.self.slots.vreg_spillslots) (sym operand)
            (subst (λ (d : StoredDef). (op_at ops d.index).vreg.number < length c.loop-store.self.slots.vreg_spillslots) (sym item) (omega (
              arith,
              long,
              from,
            ))),
        subst (λ (d : StoredDef). d.to.number < length c.loop-store.self.slots.vreg_spillslots) (sym item) (omega (arith, long, to)),
      ),
    )

pub loop-store-preserved : goal.loop-store-preserved
loop-store-preserved g c =
    let ds : List StoredDef = c.args.stores.now in
    let ops : List OperandValue = c.args.operands.now in
    let k : ℕ = c.loop-store.store-index in
    let item : c.store-item.result ≡ slice_index_or ds k no_store = get_or_read ds k c.store-item.result c.loop-store-test.true c.store-item.is no_store in
    let inside : c.store-item.result.index < length ops = subst (λ (d : StoredDef). d.index < length ops) (sym item)
    (All-get_or (λ (d : StoredDef). d.index < length ops) ds k no_store c.loop-store-test.true c.requires.inside) in
    let operand : c.index-operands-store.result ≡ op_at ops c.store-item.result.index = get_or_read ops c.store-item.result.index c.index-operands-store.result
    inside c.index-operands-store.is no_operand in
    let F : OperandValue → VirtualRegister → Type 0 = λ o v. FindsStore o v c.in_ok-m.m c.loop-store.self.slots c.store_move.new.self.slots in
    let one : F (op_at ops c.store-item.result.index) c.store-item.result.to = subst (λ (o : OperandValue). F o c.store-item.result.to) operand
    c.in_ok-m.ensures.ok in
    let t : StateValue = tables_of c.args.self.now in
    record {
      finds = subst (λ (ms : List StoreMove). FindsStores ops ds t.slots (k + 1) ms c.store_move.new.self.slots) (sym c.in_ok-push.ensures.items)
          (one_found k c.loop-store.moves.items c.in_ok-m.m c.loop-store.self.slots c.store_move.new.self.slots c.loop-store-test.true
          c.loop-store.invariant.finds (subst (λ (d : StoredDef). F (op_at ops d.index) d.to) item one));
      tables = c.store_move.ensures.step.tables ∙ ap (λ (x : StateValue). record x { slots = c.store_move.new.self.slots }) c.loop-store.invariant.tables;
      machine = same_machine_trans t (tables_of c.loop-store.self) (tables_of c.store_move.new.self) c.loop-store.invariant.machine c.store_move.ensures.step.machine;
    }

pub returns-clause-ok : goal.returns-clause-ok
returns-clause-ok g c =
    let all : c.loop-store.store-index ≡ length c.args.stores.now = omega arith in
    subst (λ (n : ℕ). FindsStores c.args.operands.now c.args.stores.now c.args.self.now.slots n c.loop-store.moves.items c.loop-store.self.slots) all
    c.loop-store.invariant.finds

pub returns-clause-step : goal.returns-clause-step
returns-clause-step g c = record { tables = c.loop-store.invariant.tables; machine = c.loop-store.invariant.machine; err = search rules }

pub returns-in_err-m-clause-step : goal.returns-in_err-m-clause-step
returns-in_err-m-clause-step g c =
    let e = err_from_is_err_and c.from_residual.result c.from_residual.ensures.1 in
    let t : StateValue = tables_of c.args.self.now in
    rw e.1 (rw e.2 (record {
      tables = c.store_move.ensures.step.tables ∙ ap (λ (x : StateValue). record x { slots = c.store_move.new.self.slots }) c.loop-store.invariant.tables;
      machine = same_machine_trans t (tables_of c.loop-store.self) (tables_of c.store_move.new.self) c.loop-store.invariant.machine c.store_move.ensures.step.machine;
      err = c.in_err-m.ensures.step.err;
    }))
