use Rattle.std.proofs.Common.{refl}
use Rattle.std.specs.BinaryHeap.{heap_items}
use Rattle.regalloc2_checker.proofs.Queues.{queue-popped}
use Rattle.regalloc2_checker.proofs.queue.Queue.pop.Goals as goal

pub returns-clause-queue : goal.returns-clause-queue
returns-clause-queue g c =
    (queue-popped c.args.self.now.is_queued.items (heap_items c.args.self.now.heap) (heap_items c.pop.new.self) c.in-Some.entry _ refl
    c.in-Some.ensures.permutation c.requires).1
