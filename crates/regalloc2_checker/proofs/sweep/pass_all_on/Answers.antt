use Rattle.std.proofs.Common.{◌<◌, List, Bool, length, refl, sym, subst, arith, rules}
use Rattle.std.specs.BinaryHeap.{heap_items}
use Rattle.std.proofs.lemmas.Bool.{OnTrue_at, OnTrue_from}
use Rattle.regalloc2_function.specs.FunctionValue.{FunctionValue}
use Rattle.regalloc2_checker.specs.Propagation.{IsReady}
use Rattle.regalloc2_checker.proofs.FactsFollowMaps.{AreEarlier}
use Rattle.regalloc2_checker.proofs.Queues.{all-settled, ready-popped}
use Rattle.regalloc2_checker.proofs.RoundInvariant.{solved}
use Rattle.regalloc2_checker.proofs.Sweeps.{report-swept}
use Rattle.regalloc2_checker.proofs.sweep.pass_all_on.Goals as goal

pub returns-in_default : goal.returns-in_default
returns-in_default g c =
    let f : FunctionValue = g.F.Function.function c.args.by.now.f.now in
    let law : AreEarlier = record { source = c.finds_earlier_writes.ensures.source; cells = c.finds_earlier_writes.ensures.cells } in
    let inv = c.loop.invariant in
    let p = c.in_ok-is_clean.ensures in
    let old = c.loop.sweep.state in
    let end = c.finish_below.new.sweep in
    OnTrue_from c.in_ok-is_clean.is_clean _ (λ e env slots.
    report-swept law g.row.A.Denot f env g.o c.args.by.now.slots end.is_done.items inv.known end.state.values old.reached.items end.state.reached.items
    c.requires.1.1.1.0
    (solved f g.o inv.known c.requires.1.1.1.0 inv.on_way.sound
    (all-settled f g.o inv.known old.queue.is_queued.items inv.on_way.kept (c.in_default.ensures.none refl)))
    (OnTrue_at e p.swept inv.known inv.swept) slots p.further.reached inv.tables.reached (OnTrue_at e p.all refl))

pub new-requires : goal.new-requires
new-requires g c = omega (arith, c.in-Some.ensures.marks.0, c.loop.invariant.on_way.kept.size, (g.met.F.Function.limited c.args.by.now.f.now).blocks)

pub pass_on-requires : goal.pass_on-requires
pass_on-requires g c κs within =
    let f : FunctionValue = g.F.Function.function c.args.by.now.f.now in
    let inv = c.loop.invariant in
    let marks : List Bool = c.loop.sweep.state.queue.is_queued.items in
    let e = c.in-Some.ensures.entries in
    let ready = ready-popped f g.o inv.known marks (heap_items c.loop.sweep.state.queue.heap) (heap_items c.pop.new.self.heap) e.0 c.in-Some.block e.1 e.2
    inv.on_way in
    let less : c.new.result < length f.blocks = omega (arith, c.new.ensures, c.in-Some.ensures.marks.0, inv.on_way.kept.size) in (
      search rules,
      (
        search rules,
        (
          c.requires.1.1.0,
          (
            c.requires.1.1.1.0,
            (
              less,
              record {
                tables = inv.tables;
                known = inv.known;
                swept = inv.swept;
                ready = rw c.new.ensures (subst (λ (ms : List Bool). IsReady f g.o inv.known ms (heap_items c.pop.new.self.heap) c.in-Some.block)
                    (sym c.in-Some.ensures.marks.1) ready);
              },
            ),
          ),
        ),
      ),
    )
