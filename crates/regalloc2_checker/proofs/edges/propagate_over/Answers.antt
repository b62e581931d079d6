use Rattle.std.proofs.Common.{ℕ, ◌≡◌, ◌<◌, List, Bool, length, slice_index, ◌∙◌, ap, sym, subst, refl, arith, true, false}
use Rattle.std.proofs.lemmas.List.{length-set}
use Rattle.std.specs.BinaryHeap.{heap_items, heap_len}
use Rattle.regalloc2_function.specs.FunctionValue.{FunctionValue, block_at}
use Rattle.regalloc2_checker.specs.Facts.{Facts}
use Rattle.regalloc2_checker.specs.Propagation.{AreReached, over}
use Rattle.regalloc2_checker.specs.Swept.{laid, done_at}
use Rattle.regalloc2_checker.specs.TableFacts.{facts_now}
use Rattle.regalloc2_checker.specs.Tables.{BlockView, views, IsMeet}
use Rattle.regalloc2_checker.proofs.BlocksInRange.{index_is}
use Rattle.regalloc2_checker.proofs.Laid.{laid-meet}
use Rattle.regalloc2_checker.proofs.Queues.{views-kept, alike-after, over-is, reached-either, left-falls, left-stays, sized-on}
use Rattle.regalloc2_checker.proofs.TableSteps.{table-kept}
use Rattle.regalloc2_checker.proofs.edges.propagate_over.Goals as goal

-- facts passed over an edge, by its position
passed-at : (f : FunctionValue) (b k n : ℕ) (F M : Facts) → M ≡ over f b n F → n ≡ k → M ≡ over f b k F
passed-at f b k n F M e same = subst (λ (i : ℕ). M ≡ over f b i F) same e

pub returns-then-not-changed : goal.returns-then-not-changed
returns-then-not-changed g c =
    let f : FunctionValue = g.F.Function.function c.args.f.now in
    let passed : facts_now c.transfer_edge.new.values ≡ over f c.args.block c.args.position (facts_now c.args.state.now.values) =
    passed-at f c.args.block c.args.position _ (facts_now c.args.state.now.values) (facts_now c.transfer_edge.new.values)
    c.in_ok-transfer_edge.ensures.now refl in
    let kept = c.in_ok-transfer_edge.ensures.kept in
    let u = c.in_ok-changed.ensures in
    let less : c.args.position < length c.block_succs.result.now = rw c.block_succs.ensures c.requires.position in
    let at : c.index-block_succs-position.result ≡ slice_index (block_at f c.args.block).succs c.args.position =
    index_is (block_at f c.args.block).succs c.block_succs.result.now c.args.position c.index-block_succs-position.result less c.index-block_succs-position.is
    c.block_succs.ensures in
    let target : c.index-target.result ≡ slice_index (block_at f c.args.block).succs c.args.position = c.index-target.ensures ∙ at in
    let inside = c.requires.framed.successors.1 c.args.block c.requires.block c.args.position 0 c.requires.position in
    let rs : List Bool = c.args.state.now.reached.items in
    let old : List BlockView = views c.args.state.now.values rs in
    let mid : List BlockView = views c.transfer_edge.new.values rs in
    let new : List BlockView = views c.update.new.values c.update.new.reached.items in
    let same : mid ≡ old = views-kept c.args.state.now.values c.transfer_edge.new.values rs kept in
    let met : IsMeet mid new c.index-target.result (facts_now c.transfer_edge.new.values) false =
    subst (λ (b : Bool). IsMeet mid new c.index-target.result (facts_now c.transfer_edge.new.values) b) c.if-not-changed.true u.met in
    let alike = alike-after c.args.state.now.values c.transfer_edge.new.values c.update.new.values kept u.alike in
    record {
      alike = alike;
      sized = sized-on f c.args.state.now.values c.update.new.values rs c.update.new.reached.items c.args.state.now.queue.is_queued.items
          c.args.state.now.queue.is_queued.items alike u.long refl c.requires.sized;
      kept = u.others (length f.blocks) (λ e. omega (arith, e, target, inside))
          ∙ table-kept c.args.state.now.values c.transfer_edge.new.values (length f.blocks) kept;
      over = λ done vs h. record {
        changed = false;
        over = over-is f c.args.block c.args.position (facts_now c.args.state.now.values) (facts_now c.transfer_edge.new.values) (laid done vs old)
            (laid done vs mid) (laid done vs new) c.args.state.now.queue.is_queued.items c.args.state.now.queue.is_queued.items c.index-target.result false
            (record { aimed = target; tables = ap (laid done vs) same; facts = passed })
            (laid-meet done vs mid new c.index-target.result (facts_now c.transfer_edge.new.values) false
            (ap (λ n. done_at done n) target ∙ h) met) refl;
        reached = subst (λ (t : List BlockView). AreReached t (heap_items c.args.state.now.queue.heap))
            (sym (ap (laid done vs) ((met.same refl).0 ∙ same)));
      };
      queue = c.requires.queue;
      falls = left-stays old mid new c.index-target.result (heap_len c.args.state.now.queue.heap) (facts_now c.transfer_edge.new.values) same met;
    }

pub returns : goal.returns
returns g c =
    let f : FunctionValue = g.F.Function.function c.args.f.now in
    let passed : facts_now c.transfer_edge.new.values ≡ over f c.args.block c.args.position (facts_now c.args.state.now.values) =
    passed-at f c.args.block c.args.position _ (facts_now c.args.state.now.values) (facts_now c.transfer_edge.new.values)
    c.in_ok-transfer_edge.ensures.now refl in
    let kept = c.in_ok-transfer_edge.ensures.kept in
    let u = c.in_ok-changed.ensures in
    let less : c.args.position < length c.block_succs.result.now = rw c.block_succs.ensures c.requires.position in
    let at : c.index-block_succs-position.result ≡ slice_index (block_at f c.args.block).succs c.args.position =
    index_is (block_at f c.args.block).succs c.block_succs.result.now c.args.position c.index-block_succs-position.result less c.index-block_succs-position.is
    c.block_succs.ensures in
    let target : c.index-target.result ≡ slice_index (block_at f c.args.block).succs c.args.position = c.index-target.ensures ∙ at in
    let inside = c.requires.framed.successors.1 c.args.block c.requires.block c.args.position 0 c.requires.position in
    let rs : List Bool = c.args.state.now.reached.items in
    let old : List BlockView = views c.args.state.now.values rs in
    let mid : List BlockView = views c.transfer_edge.new.values rs in
    let new : List BlockView = views c.update.new.values c.update.new.reached.items in
    let marks : List Bool = c.args.state.now.queue.is_queued.items in
    let same : mid ≡ old = views-kept c.args.state.now.values c.transfer_edge.new.values rs kept in
    let met : IsMeet mid new c.index-target.result (facts_now c.transfer_edge.new.values) true =
    subst (λ (b : Bool). IsMeet mid new c.index-target.result (facts_now c.transfer_edge.new.values) b) c.if-not-changed.false u.met in
    let alike = alike-after c.args.state.now.values c.transfer_edge.new.values c.update.new.values kept u.alike in
    record {
      alike = alike;
      sized = sized-on f c.args.state.now.values c.update.new.values rs c.update.new.reached.items marks c.push.new.self.is_queued.items
          alike u.long (ap (λ (xs : List Bool). length xs) c.in_ok-push.ensures.marks ∙ length-set marks c.index-target.result true) c.requires.sized;
      kept = u.others (length f.blocks) (λ e. omega (arith, e, target, inside))
          ∙ table-kept c.args.state.now.values c.transfer_edge.new.values (length f.blocks) kept;
      over = λ done vs h.
          let m : IsMeet (laid done vs mid) (laid done vs new) c.index-target.result (facts_now c.transfer_edge.new.values) true =
          laid-meet done vs mid new c.index-target.result (facts_now c.transfer_edge.new.values) true (ap (λ n. done_at done n) target ∙ h) met in
          record {
            changed = true;
            over = over-is f c.args.block c.args.position (facts_now c.args.state.now.values) (facts_now c.transfer_edge.new.values) (laid done vs old)
                (laid done vs mid) (laid done vs new) marks c.push.new.self.is_queued.items c.index-target.result true
                (record { aimed = target; tables = ap (laid done vs) same; facts = passed }) m c.in_ok-push.ensures.marks;
            reached = λ r. reached-either (laid done vs mid) (laid done vs new) c.index-target.result (facts_now c.transfer_edge.new.values)
                (heap_items c.args.state.now.queue.heap) (heap_items c.push.new.self.heap) (m.updated refl)
                (subst (λ (t : List BlockView). AreReached t (heap_items c.args.state.now.queue.heap)) (sym (ap (laid done vs) same)) r)
                c.in_ok-push.ensures.entries;
          };
      queue = c.in_ok-push.ensures.queue;
      falls = left-falls old mid new c.index-target.result (heap_len c.args.state.now.queue.heap) (heap_len c.push.new.self.heap)
          (facts_now c.transfer_edge.new.values) same met c.in_ok-push.ensures.longer;
    }
