use Rattle.std.proofs.Common.{◌<◌, List, Bool, length, ◌∙◌, ap, sym, subst, refl, arith, rules, false}
use Rattle.std.proofs.lemmas.List.{length-set}
use Rattle.std.specs.BinaryHeap.{heap_items}
use Rattle.regalloc2_function.specs.FunctionValue.{FunctionValue}
use Rattle.regalloc2_checker.specs.Propagation.{IsReady}
use Rattle.regalloc2_checker.specs.Tables.{BlockView, views}
use Rattle.regalloc2_checker.proofs.Laid.{way-all}
use Rattle.regalloc2_checker.proofs.Queues.{all-settled, ready-popped}
use Rattle.regalloc2_checker.proofs.RoundInvariant.{solved}
use Rattle.regalloc2_checker.proofs.TransferFollowsFacts.{named_same}
use Rattle.regalloc2_checker.proofs.analyze.analyze.Goals as goal

pub passes-init : goal.passes-init
passes-init g c =
    let s = c.in_ok-state.ensures in
    record {
      named = rw c.requires.1.1.1.1.1.0 at s.named;
      sized = s.sized;
      on_way = s.on_way g.o;
    }

pub new-requires : goal.new-requires
new-requires g c = omega (arith, c.in-Some.ensures.marks.0, c.passes.invariant.sized.marks, (g.met.F.Function.limited c.args.f.now).blocks)

pub propagate_block-requires : goal.propagate_block-requires
propagate_block-requires g c κs within =
    let f : FunctionValue = g.F.Function.function c.args.f.now in
    let inv = c.passes.invariant in
    let marks : List Bool = c.passes.state.queue.is_queued.items in
    let less : c.new.result < length f.blocks = omega (arith, c.new.ensures, c.in-Some.ensures.marks.0, inv.sized.marks) in (
      search rules,
      (
        search rules,
        (
          c.requires.1.1.1.0,
          (
            c.requires.1.1.1.1.0,
            (
              inv.named,
              (
                less,
                (
                  record {
                    reached = inv.sized.reached;
                    count = inv.sized.count;
                    marks = ap (λ (xs : List Bool). length xs) c.in-Some.ensures.marks.1 ∙ length-set marks c.in-Some.block false ∙ inv.sized.marks;
                  },
                  c.in-Some.ensures.queue,
                ),
              ),
            ),
          ),
        ),
      ),
    )

pub passes-preserved : goal.passes-preserved
passes-preserved g c =
    let f : FunctionValue = g.F.Function.function c.args.f.now in
    let inv = c.passes.invariant in
    let marks : List Bool = c.passes.state.queue.is_queued.items in
    let t : List BlockView = views c.passes.state.values c.passes.state.reached.items in
    let e = c.in-Some.ensures.entries in
    let p = c.in_ok-propagate_block.ensures in
    let ready = ready-popped f g.o t marks (heap_items c.passes.state.queue.heap) (heap_items c.pop.new.self.heap) e.0 c.in-Some.block e.1 e.2 inv.on_way in
    record {
      named = named_same f g.o c.passes.state.values c.propagate_block.new.state.values p.alike.places p.alike.vregs inv.named;
      sized = p.sized;
      on_way = way-all f g.o t (views c.propagate_block.new.state.values c.propagate_block.new.state.reached.items) c.pop.new.self.is_queued.items
          c.propagate_block.new.state.queue.is_queued.items (heap_items c.pop.new.self.heap) (heap_items c.propagate_block.new.state.queue.heap) c.new.result
          p.on_way
          (rw c.new.ensures (subst (λ (ms : List Bool). IsReady f g.o t ms (heap_items c.pop.new.self.heap) c.in-Some.block)
          (sym c.in-Some.ensures.marks.1) ready));
    }

pub returns-clause-solved : goal.returns-clause-solved
returns-clause-solved g c =
    let f : FunctionValue = g.F.Function.function c.args.f.now in
    let inv = c.passes.invariant in
    let t : List BlockView = views c.passes.state.values c.passes.state.reached.items in
    solved f g.o t c.requires.1.1.1.1.0 inv.on_way.sound
    (all-settled f g.o t c.passes.state.queue.is_queued.items inv.on_way.kept (c.in_default.ensures.none refl))

pub returns-clause-named : goal.returns-clause-named
returns-clause-named g c = c.passes.invariant.named

pub returns-clause-count : goal.returns-clause-count
returns-clause-count g c = c.passes.invariant.sized.count
