use Rattle.std.proofs.Common.{◌≡◌, ◌<◌, ℕ, List, Bool, length, ◌∙◌, ap, sym, subst, arith}
use Rattle.std.specs.Prelude.{sum_by}
use Rattle.std.specs.BinaryHeap.{heap_items}
use Rattle.regalloc2_function.specs.FunctionValue.{FunctionValue, block_at}
use Rattle.regalloc2_function.specs.OutputValue.{OutputValue}
use Rattle.regalloc2_checker.specs.Showing.{Showing, shows_in, shows_now}
use Rattle.regalloc2_checker.specs.Facts.{Facts}
use Rattle.regalloc2_checker.specs.Propagation.{IsPropagatedOver, AreReached}
use Rattle.regalloc2_checker.specs.Swept.{laid}
use Rattle.regalloc2_checker.specs.TableFacts.{facts_now, facts_table}
use Rattle.regalloc2_checker.specs.Tables.{BlockView, views, weight}
use Rattle.regalloc2_checker.proofs.FactsFollowMaps.{AreEarlier}
use Rattle.regalloc2_checker.proofs.Queues.{views-kept, alike-after, alike-twice, way-done}
use Rattle.regalloc2_checker.proofs.TableSteps.{now-as, table-kept}
use Rattle.regalloc2_checker.proofs.UnmarkedStaySolved.{EdgesPassed, edges-first, edge-passed}
use Rattle.regalloc2_checker.proofs.Updates.{views-beside, table-saved}
use Rattle.regalloc2_checker.proofs.analyze.propagate_edges.Goals as goal

pub loop-k-init : goal.loop-k-init
loop-k-init g c =
    let f : FunctionValue = g.F.Function.function c.args.f.now in
    let t : Showing = c.args.state.now.values in
    let u : Showing = c.save.new.self in
    let rs : List Bool = c.args.state.now.reached.items in
    let marks : List Bool = c.args.state.now.queue.is_queued.items in
    let sized = c.requires.1.1.1.1.1.0 in
    let end : c.num_blocks-end.result ≡ length f.blocks = c.num_blocks-end.ensures.count in
    let same : views u rs ≡ views t rs = views-beside t u rs c.num_blocks-end.result (shows_now t) (omega (arith, end, sized.reached)) c.save.ensures.places
    c.in_ok-save.ensures.tables in
    let sums = ap (λ (vs : List BlockView). sum_by weight vs) same in
    record {
      last = ap (λ (xs : List ℕ). length xs) c.block_succs-k-end.ensures;
      low = omega arith;
      alike = record { places = c.save.ensures.places; vregs = c.save.ensures.vregs; count = c.save.ensures.count };
      sized = record { reached = sized.reached; count = c.save.ensures.count ∙ sized.count; marks = sized.marks };
      table = subst (λ (n : ℕ). facts_table u n ≡ facts_now t) end (table-saved t u c.num_blocks-end.result c.save.ensures.places c.in_ok-save.ensures.tables);
      done = λ done vs none ready ends. record {
        passed = subst (λ (ts : List BlockView). EdgesPassed f g.o (laid done vs (views t rs)) ts marks c.args.block 0) (sym (ap (laid done vs) same))
            (edges-first f g.o (laid done vs (views t rs)) marks c.args.block ready.sound ready.none);
        reached = subst (λ (ts : List BlockView). AreReached ts (heap_items c.args.state.now.queue.heap)) (sym (ap (laid done vs) same)) ready.reached;
      };
      queue = c.requires.1.1.1.1.1.1;
      falls = omega (arith, sums);
    }

pub loop-k-preserved : goal.loop-k-preserved
loop-k-preserved g c =
    let f : FunctionValue = g.F.Function.function c.args.f.now in
    let o : OutputValue = g.o in
    let b : ℕ = c.args.block in
    let k : ℕ = c.loop-k.k in
    let law : AreEarlier = record { source = c.finds_earlier_writes.ensures.source; cells = c.finds_earlier_writes.ensures.cells } in
    let at : Showing = c.args.state.now.values in
    let l : Showing = c.loop-k.state.values in
    let m : Showing = c.load.new.self in
    let n : Showing = c.propagate_over.new.state.values in
    let old : List BlockView = views at c.args.state.now.reached.items in
    let t : List BlockView = views l c.loop-k.state.reached.items in
    let mid : List BlockView = views m c.loop-k.state.reached.items in
    let new : List BlockView = views n c.propagate_over.new.state.reached.items in
    let marks : List Bool = c.loop-k.state.queue.is_queued.items in
    let after : List Bool = c.propagate_over.new.state.queue.is_queued.items in
    let F : Facts = facts_now at in
    let inv = c.loop-k.invariant in
    let p = c.in_ok-propagate_over.ensures in
    let same : mid ≡ t = views-kept l m c.loop-k.state.reached.items c.load.ensures.kept in
    let end : c.num_blocks-end.result ≡ length f.blocks = c.num_blocks-end.ensures.count in
    let now : facts_now m ≡ F =
    now-as l m (shows_in l c.num_blocks-end.result) c.load.ensures.kept.places c.load.ensures.now
    ∙ ap (λ (i : ℕ). facts_table l i) end ∙ inv.table in
    let less : k < length (block_at f b).succs = omega (arith, c.loop-k-test.true, inv.last) in
    let sums = ap (λ (vs : List BlockView). sum_by weight vs) same in
    record {
      last = inv.last;
      low = omega (arith, less);
      alike = alike-twice at l n inv.alike (alike-after l m n c.load.ensures.kept p.alike);
      sized = p.sized;
      table = p.kept ∙ table-kept l m (length f.blocks) c.load.ensures.kept ∙ inv.table;
      done = λ done vs none ready ends.
          let on = inv.done done vs none ready ends in
          let e = p.over done vs (none.succs k less) in
          let there : laid done vs mid ≡ laid done vs t = ap (laid done vs) same in
          let over : IsPropagatedOver f b k F (laid done vs t) (laid done vs new) marks after e.changed =
          subst (λ (X : Facts). IsPropagatedOver f b k X (laid done vs t) (laid done vs new) marks after e.changed) now
          (subst (λ (ts : List BlockView). IsPropagatedOver f b k (facts_now m) ts (laid done vs new) marks after e.changed) there e.over) in
          record {
            passed = edge-passed law f o c.requires.1.1.0 (laid done vs old) (laid done vs t) (laid done vs new) marks after b k F e.changed
                (record { sound = ready.sound; reached = ready.here; low = c.requires.1.1.1.1.0; less = less; ends = ends }) on.passed over;
            reached = e.reached (subst (λ (ts : List BlockView). AreReached ts (heap_items c.loop-k.state.queue.heap)) (sym there) on.reached);
          };
      queue = p.queue;
      falls = omega (arith, sums, p.falls, inv.falls);
    }

pub returns : goal.returns
returns g c =
    let f : FunctionValue = g.F.Function.function c.args.f.now in
    let inv = c.loop-k.invariant in
    let all : c.loop-k.k ≡ length (block_at f c.args.block).succs = omega (arith, c.loop-k-test.false, inv.last, inv.low) in
    record {
      alike = inv.alike;
      sized = inv.sized;
      queue = inv.queue;
      on_way = λ done vs none ready ends.
          let on = inv.done done vs none ready ends in
          way-done f g.o (laid done vs (views c.args.state.now.values c.args.state.now.reached.items))
          (laid done vs (views c.loop-k.state.values c.loop-k.state.reached.items)) c.loop-k.state.queue.is_queued.items (heap_items c.loop-k.state.queue.heap)
          c.args.block c.loop-k.k all on.passed inv.queue on.reached;
      falls = inv.falls;
    }
