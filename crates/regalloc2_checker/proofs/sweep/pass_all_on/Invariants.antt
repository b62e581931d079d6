use Rattle.std.specs.BinaryHeap.{heap_items}
use Rattle.regalloc2_checker.specs.Swept.{IsSweepUnderWay}
use Rattle.regalloc2_checker.proofs.sweep.pass_all_on.Given as goal

abbrev pub ghost-finish_below : goal.ghost-finish_below
ghost-finish_below g a = g.o

abbrev pub ghost-pass_on : goal.ghost-pass_on
ghost-pass_on g a = g.o

-- what is known of the blocks is under way
abbrev pub invariant-loop : goal.invariant-loop
invariant-loop g l =
    IsSweepUnderWay g.row.A.Denot (g.F.Function.function l.by.f.now) g.o l.by.slots l.sweep.state.values l.sweep.state.reached.items l.sweep.is_done.items
    l.sweep.state.queue.is_queued.items (heap_items l.sweep.state.queue.heap)
