use Rattle.std.proofs.Common.{ℕ, ◌≡◌, ◌+◌, ◌-◌, ◌<◌, List, drop, length, refl, subst, arith, slice_index_or}
use Rattle.std.specs.Prelude.{not}
use Rattle.std.proofs.Math.Seq.{drop-length}
use Rattle.regalloc2_names.specs.Place.{is_on_stack}
use Rattle.regalloc2_fastalloc_proofs.specs.InstSteps.{StateValue}
use Rattle.regalloc2_fastalloc_walk.specs.BranchStores.{IsMadeOf, PushesStores}
use Rattle.regalloc2_fastalloc_walk.specs.StateView.{tables_of}
use Rattle.regalloc2_fastalloc_walk.specs.declared.store.StoreMove.{StoreMove}
use Rattle.regalloc2_fastalloc_walk.proofs.StoresPushed.{pushes_none, pushes_over, pushes_one, kind_there, other_kind}
use Rattle.regalloc2_fastalloc_walk.proofs.state.State.push_stores.Goals as goal

pub loop-k-init : goal.loop-k-init
loop-k-init g c = record {
  within = omega arith;
  pushes = pushes_none c.args.point c.args.from_stack c.args.moves.now (tables_of c.args.self.now) (tables_of c.args.self.now) _ (drop-length c.args.moves.now)
      refl;
  later = c.requires;
}

-- a store of the kind is pushed
pub loop-k-preserved-in-Continue-1 : goal.loop-k-preserved-in-Continue-1
loop-k-preserved-in-Continue-1 g c =
    let ms : List StoreMove = c.args.moves.now in
    let k : ℕ = c.loop-k.k - 1 in
    let next : c.loop-k.k ≡ k + 1 = omega (arith, c.loop-k-test.true) in
    let lt : k < length ms = omega (arith, next, c.loop-k.invariant.within) in
    let t : StateValue = tables_of c.args.self.now in
    let u : StateValue = tables_of c.loop-k.self in
    let m : StoreMove = c.index-moves-k.result in
    let item : m ≡ slice_index_or ms k m = c.index-moves-k.is in
    let y = c.in_ok-push_store.ensures.outcome in
    let P : ℕ → Type 0 = λ n. PushesStores c.args.point c.args.from_stack (drop n ms) t u in
    record {
      within = omega (arith, next, c.loop-k.invariant.within);
      pushes = pushes_one c.args.point c.args.from_stack ms t k m u (tables_of c.push_store.new.self) y.0 lt
          (subst (λ (x : StoreMove). is_on_stack t.fixed_stack x.from ≡ c.args.from_stack) item
          (kind_there c.args.point c.args.from_stack ms t _ u c.loop-k.invariant.pushes m.from c.is_stack.result c.is_stack.ensures
          c.if-is_stack-from_stack.true))
          (subst P next c.loop-k.invariant.pushes) (subst (λ (x : StoreMove). IsMadeOf u x y.0) item y.1) y.2;
      later = c.in_ok-push_store.ensures.step.later;
    }

-- a store of the other kind is passed over
pub loop-k-preserved : goal.loop-k-preserved
loop-k-preserved g c =
    let ms : List StoreMove = c.args.moves.now in
    let k : ℕ = c.loop-k.k - 1 in
    let next : c.loop-k.k ≡ k + 1 = omega (arith, c.loop-k-test.true) in
    let lt : k < length ms = omega (arith, next, c.loop-k.invariant.within) in
    let t : StateValue = tables_of c.args.self.now in
    let u : StateValue = tables_of c.loop-k.self in
    let m : StoreMove = c.index-moves-k.result in
    let item : m ≡ slice_index_or ms k m = c.index-moves-k.is in
    let P : ℕ → Type 0 = λ n. PushesStores c.args.point c.args.from_stack (drop n ms) t u in
    record {
      within = omega (arith, next, c.loop-k.invariant.within);
      pushes = pushes_over c.args.point c.args.from_stack ms t k m u lt
          (subst (λ (x : StoreMove). is_on_stack t.fixed_stack x.from ≡ not c.args.from_stack) item
          (other_kind c.args.point c.args.from_stack ms t _ u c.loop-k.invariant.pushes m.from c.is_stack.result c.is_stack.ensures
          c.if-is_stack-from_stack.false))
          (subst P next c.loop-k.invariant.pushes);
      later = c.loop-k.invariant.later;
    }
