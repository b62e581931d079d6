use Rattle.std.proofs.Common.{◌≡◌, ◌+◌, ℕ, List, Bool, length, ◌∙◌, ap, sym, subst, arith, rules}
use Rattle.std.specs.Prelude.{sum_by}
use Rattle.std.specs.BinaryHeap.{heap_items}
use Rattle.regalloc2_function.specs.FunctionValue.{FunctionValue, block_at}
use Rattle.regalloc2_function.specs.OutputValue.{OutputValue}
use Rattle.regalloc2_checker.specs.Showing.{Showing}
use Rattle.regalloc2_checker.specs.Propagation.{IsBlockEnd, IsPropagatedOver, AreReached, IsReady}
use Rattle.regalloc2_checker.specs.Swept.{laid}
use Rattle.regalloc2_checker.specs.TableFacts.{facts_now}
use Rattle.regalloc2_checker.specs.Tables.{BlockView, facts_at, views, weight}
use Rattle.regalloc2_checker.proofs.FactsFollowMaps.{AreEarlier}
use Rattle.regalloc2_checker.proofs.Laid.{end-laid}
use Rattle.regalloc2_checker.proofs.Queues.{views-kept, alike-after, alike-same, way-none, way-done, block-end}
use Rattle.regalloc2_checker.proofs.TableSteps.{kept-twice}
use Rattle.regalloc2_checker.proofs.TransferFollowsFacts.{named_same}
use Rattle.regalloc2_checker.proofs.UnmarkedStaySolved.{edges-first, edge-passed}
use Rattle.regalloc2_checker.proofs.analyze.propagate_block.Goals as goal

pub load-requires : goal.load-requires
load-requires g c = rw c.index.ensures (omega (arith, c.requires.1.1.1.1.1.0, c.requires.1.1.1.1.1.1.0.count))

pub transfer_block-requires : goal.transfer_block-requires
transfer_block-requires g c κs within =
    let f : FunctionValue = g.F.Function.function c.args.f.now in (
      search rules,
      (
        search rules,
        (
          c.requires.1.1.0,
          (
            named_same f g.o c.args.state.now.values c.load.new.self c.load.ensures.kept.places c.load.ensures.kept.vregs c.requires.1.1.1.1.0,
            (c.requires.1.1.1.0, c.requires.1.1.1.1.1.0),
          ),
        ),
      ),
    )

pub returns-then-count-eq0 : goal.returns-then-count-eq0
returns-then-count-eq0 g c =
    let f : FunctionValue = g.F.Function.function c.args.f.now in
    let e = ap (λ (xs : List ℕ). length xs) c.block_succs-count.ensures in
    let none : 0 ≡ length (block_at f c.args.block).succs = omega (arith, e, c.if-count-eq0.true) in
    record {
      alike = alike-same c.args.state.now.values;
      sized = c.requires.1.1.1.1.1.1.0;
      queue = c.requires.1.1.1.1.1.1.1;
      on_way = λ done vs away ready. way-none f g.o (laid done vs (views c.args.state.now.values c.args.state.now.reached.items))
          c.args.state.now.queue.is_queued.items (heap_items c.args.state.now.queue.heap) c.args.block none ready;
      falls = omega arith;
    }

pub returns-then-count-eq1 : goal.returns-then-count-eq1
returns-then-count-eq1 g c =
    let f : FunctionValue = g.F.Function.function c.args.f.now in
    let o : OutputValue = g.o in
    let b : ℕ = c.args.block in
    let law : AreEarlier = record { source = c.finds_earlier_writes.ensures.source; cells = c.finds_earlier_writes.ensures.cells } in
    let t : Showing = c.args.state.now.values in
    let m : Showing = c.load.new.self in
    let w : Showing = c.transfer_block.new.values in
    let n : Showing = c.propagate_over.new.state.values in
    let rs : List Bool = c.args.state.now.reached.items in
    let marks : List Bool = c.args.state.now.queue.is_queued.items in
    let after : List Bool = c.propagate_over.new.state.queue.is_queued.items in
    let old : List BlockView = views t rs in
    let new : List BlockView = views n c.propagate_over.new.state.reached.items in
    let sized = c.requires.1.1.1.1.1.1.0 in
    let p = c.in_ok-propagate_over.ensures in
    let kept = kept-twice t m w c.load.ensures.kept c.in_ok-transfer_block.ensures.kept in
    let same : views w rs ≡ old = views-kept t w rs kept in
    let ends : IsBlockEnd f o b (facts_at old b) (facts_now w) =
    block-end f o b t m w rs (omega (arith, sized.reached, c.requires.1.1.1.1.1.0)) c.load.ensures.kept.places (rw c.index.ensures at c.load.ensures.now)
    c.in_ok-transfer_block.ensures.now in
    let e = ap (λ (xs : List ℕ). length xs) c.block_succs-count.ensures in
    let one : 0 + 1 ≡ length (block_at f b).succs = omega (arith, e, c.if-count-eq1.true) in
    let sums = ap (λ (vs : List BlockView). sum_by weight vs) same in
    record {
      alike = alike-after t w n kept p.alike;
      sized = p.sized;
      queue = p.queue;
      on_way = λ done vs away ready.
          let e = p.over done vs (away.succs 0 (omega (arith, one))) in
          let there : laid done vs (views w rs) ≡ laid done vs old = ap (laid done vs) same in
          let over : IsPropagatedOver f b 0 (facts_now w) (laid done vs old) (laid done vs new) marks after e.changed =
          subst (λ (ts : List BlockView). IsPropagatedOver f b 0 (facts_now w) ts (laid done vs new) marks after e.changed) there e.over in
          way-done f o (laid done vs old) (laid done vs new) after (heap_items c.propagate_over.new.state.queue.heap) b (0 + 1) one
          (edge-passed law f o c.requires.1.1.1.0 (laid done vs old) (laid done vs old) (laid done vs new) marks after b 0 (facts_now w) e.changed
          (record {
            sound = ready.sound;
            reached = ready.here;
            low = c.requires.1.1.1.1.1.0;
            less = omega (arith, one);
            ends = end-laid f o b done vs old (facts_now w) away.here ends;
          })
          (edges-first f o (laid done vs old) marks b ready.sound ready.none) over) p.queue
          (e.reached (subst (λ (ts : List BlockView). AreReached ts (heap_items c.args.state.now.queue.heap)) (sym there) ready.reached));
      falls = omega (arith, sums, p.falls);
    }

pub propagate_edges-requires : goal.propagate_edges-requires
propagate_edges-requires g c κs within =
    let f : FunctionValue = g.F.Function.function c.args.f.now in
    let o : OutputValue = g.o in
    let b : ℕ = c.args.block in
    let t : Showing = c.args.state.now.values in
    let m : Showing = c.load.new.self in
    let w : Showing = c.transfer_block.new.values in
    let rs : List Bool = c.args.state.now.reached.items in
    let marks : List Bool = c.args.state.now.queue.is_queued.items in
    let sized = c.requires.1.1.1.1.1.1.0 in
    let kept = kept-twice t m w c.load.ensures.kept c.in_ok-transfer_block.ensures.kept in (
      search rules,
      (
        search rules,
        (
          c.requires.1.1.1.0,
          (
            named_same f o t w kept.places kept.vregs c.requires.1.1.1.1.0,
            (
              c.requires.1.1.1.1.1.0,
              (
                record { reached = sized.reached; count = kept.count ∙ sized.count; marks = sized.marks },
                c.requires.1.1.1.1.1.1.1,
              ),
            ),
          ),
        ),
      ),
    )

pub returns : goal.returns
returns g c =
    let f : FunctionValue = g.F.Function.function c.args.f.now in
    let o : OutputValue = g.o in
    let b : ℕ = c.args.block in
    let t : Showing = c.args.state.now.values in
    let m : Showing = c.load.new.self in
    let w : Showing = c.transfer_block.new.values in
    let rs : List Bool = c.args.state.now.reached.items in
    let sized = c.requires.1.1.1.1.1.1.0 in
    let p = c.in_ok-propagate_edges.ensures in
    let kept = kept-twice t m w c.load.ensures.kept c.in_ok-transfer_block.ensures.kept in
    let same : views w rs ≡ views t rs = views-kept t w rs kept in
    let sums = ap (λ (vs : List BlockView). sum_by weight vs) same in
    let ends : IsBlockEnd f o b (facts_at (views t rs) b) (facts_now w) =
    block-end f o b t m w rs (omega (arith, sized.reached, c.requires.1.1.1.1.1.0)) c.load.ensures.kept.places (rw c.index.ensures at c.load.ensures.now)
    c.in_ok-transfer_block.ensures.now in
    record {
      alike = alike-after t w c.propagate_edges.new.state.values kept p.alike;
      sized = p.sized;
      queue = p.queue;
      on_way = λ done vs away ready.
          let there : laid done vs (views w rs) ≡ laid done vs (views t rs) = ap (laid done vs) same in
          p.on_way done vs away (subst (λ (ts : List BlockView). IsReady f o ts c.args.state.now.queue.is_queued.items
          (heap_items c.args.state.now.queue.heap) b) (sym there) ready)
          (subst (λ (ts : List BlockView). IsBlockEnd f o b (facts_at ts b) (facts_now w)) (sym there)
          (end-laid f o b done vs (views t rs) (facts_now w) away.here ends));
      falls = omega (arith, sums, p.falls);
    }
