use Rattle.std.proofs.Common.{◌≡◌, List, Bool, length, ap, sym, subst, ◌∙◌, rules}
use Rattle.std.specs.BinaryHeap.{heap_items}
use Rattle.std.proofs.lemmas.Bool.{OnTrue_at, OnFalse_at}
use Rattle.regalloc2_function.specs.FunctionValue.{FunctionValue}
use Rattle.regalloc2_checker.specs.Propagation.{IsReady}
use Rattle.regalloc2_checker.specs.Swept.{LeadsToNoneDone}
use Rattle.regalloc2_checker.proofs.Queues.{alike-twice}
use Rattle.regalloc2_checker.proofs.Sweeps.{sweep-tables, way-swept}
use Rattle.regalloc2_checker.proofs.TransferFollowsFacts.{named_same}
use Rattle.regalloc2_checker.proofs.sweep.pass_on.Goals as goal

pub propagate_block-requires : goal.propagate_block-requires
propagate_block-requires g c κs within =
    let f : FunctionValue = g.F.Function.function c.args.by.now.f.now in
    let r = c.requires.1.1.1.1.1 in
    let m = c.in_ok-make_room.ensures in (
      search rules,
      (
        search rules,
        (
          c.requires.1.1.0,
          (
            c.requires.1.1.1.0,
            (
              named_same f g.o c.args.sweep.now.state.values c.make_room.new.sweep.state.values m.further.alike.places m.further.alike.vregs r.tables.named,
              (
                c.requires.1.1.1.1.0,
                (
                  record {
                    reached = ap (λ (xs : List Bool). length xs) m.further.reached ∙ r.tables.reached;
                    count = m.further.alike.count ∙ r.tables.count;
                    marks = rw m.queue r.ready.none.size;
                  },
                  rw m.queue r.ready.queue,
                ),
              ),
            ),
          ),
        ),
      ),
    )

pub returns : goal.returns
returns g c =
    let f : FunctionValue = g.F.Function.function c.args.by.now.f.now in
    let r = c.requires.1.1.1.1.1 in
    let old = c.args.sweep.now.state in
    let mid = c.make_room.new.sweep in
    let new = c.propagate_block.new.state in
    let m = c.in_ok-make_room.ensures in
    let p = c.in_ok-propagate_block.ensures in
    let ready : IsReady f g.o r.known mid.state.queue.is_queued.items (heap_items mid.state.queue.heap) c.args.block = rw m.queue r.ready in
    let away : LeadsToNoneDone f mid.is_done.items c.args.block =
    subst (λ (ds : List Bool). LeadsToNoneDone f ds c.args.block) c.deref.ensures.value (OnFalse_at c.if-leads_to_done.false c.leads_to_done.ensures) in
    let reached : length mid.state.reached.items ≡ length f.blocks = ap (λ (xs : List Bool). length xs) m.further.reached ∙ r.tables.reached in
    let w = way-swept g.row.A.Denot f g.o c.args.by.now.slots mid.is_done.items r.known mid.state.values new.values mid.state.reached.items new.reached.items
    mid.state.queue.is_queued.items new.queue.is_queued.items (heap_items mid.state.queue.heap) (heap_items new.queue.heap) c.args.block
    (p.sized.reached ∙ sym reached) (OnTrue_at c.if-not-branch.false m.swept r.known r.swept) (p.on_way mid.is_done.items r.known away) ready in
    record {
      tables = sweep-tables f g.o old.values new.values new.reached.items mid.is_done.items new.queue.is_queued.items
          (alike-twice old.values mid.state.values new.values m.further.alike p.alike) r.tables.named p.sized (m.further.size ∙ r.tables.done);
      known = w.0;
      swept = w.1;
      on_way = w.2;
    }

pub returns-then-not-branch : goal.returns-then-not-branch
returns-then-not-branch g c = tt

pub returns-then-leads_to_done : goal.returns-then-leads_to_done
returns-then-leads_to_done g c = tt
