use Rattle.std.proofs.Common.{◌≡◌, true, inl, inr, refl, arith}
use Rattle.std.specs.BinaryHeap.{heap_items}
use Rattle.regalloc2_checker.specs.Propagation.{mark_at}
use Rattle.regalloc2_checker.proofs.Queues.{queue-again, queue-pushed}
use Rattle.regalloc2_checker.proofs.UnmarkedStaySolved.{mark-is}
use Rattle.regalloc2_checker.proofs.queue.Queue.push.Goals as goal

pub returns-then-index : goal.returns-then-index
returns-then-index g c =
    let m : mark_at c.args.self.now.is_queued.items c.args.block ≡ true =
    mark-is c.args.self.now.is_queued.items c.args.block c.args.block c.index.result.now true c.requires.block c.index.ensures refl
    c.if-index.true in
    let again = queue-again c.args.self.now.is_queued.items c.args.block c.requires.block m in
    record { marks = again; entries = inl refl; queue = c.requires.queue; longer = omega arith }

pub returns : goal.returns
returns g c = record {
  marks = refl;
  entries = inr (_, refl, c.in_ok-push.ensures.permutation);
  queue = queue-pushed c.args.self.now.is_queued.items (heap_items c.args.self.now.heap) _ _ c.args.block refl c.requires.block
      c.in_ok-push.ensures.permutation c.requires.queue;
  longer = omega (arith, c.in_ok-push.ensures.len);
}
