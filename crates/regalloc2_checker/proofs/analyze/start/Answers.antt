use Rattle.std.proofs.Common.{◌<◌, ℕ, List, Bool, [], length, refl}
use Rattle.std.specs.BinaryHeap.{heap_items}
use Rattle.std.specs.declared.cmp.Reverse.{Reverse}
use Rattle.regalloc2_function.specs.FunctionValue.{FunctionValue}
use Rattle.regalloc2_checker.specs.Tables.{views}
use Rattle.regalloc2_checker.proofs.Queues.{reached-one}
use Rattle.regalloc2_checker.proofs.Started.{started, started-entry}
use Rattle.regalloc2_checker.proofs.analyze.start.Goals as goal

pub returns : goal.returns
returns g c =
    let f : FunctionValue = g.F.Function.function c.args.f.now in
    let h = c.in_ok-reached.ensures in
    let t = c.in_ok-values.ensures in
    let values = c.in_ok-values.values in
    let rs : List Bool = c.in_ok-reached.reached.items in
    let marks : List Bool = c.in_ok-reached.queue.is_queued.items in
    let entries : List (Reverse (ℕ × ℕ)) = heap_items c.in_ok-reached.queue.heap in
    let there : f.entry < length f.blocks = c.requires.framed.successors.0 in
    record {
      named = t.named;
      sized = record { reached = h.long; count = t.count; marks = h.size };
      on_way = λ o. started f o values rs marks entries there h.long h.one h.size h.marked t.empty h.queue
          (reached-one (views values rs) [] entries f.entry refl
          (started-entry f o values rs marks entries there h.long h.one h.size h.marked t.empty) h.entries);
    }
