use Rattle.std.proofs.Common.{◌+◌}
use Rattle.std.specs.Prelude.{sum_by}
use Rattle.std.specs.BinaryHeap.{heap_items, heap_len}
use Rattle.regalloc2_checker.specs.Propagation.{IsUnderWay, AreSized}
use Rattle.regalloc2_checker.specs.TableFacts.{AreNamed}
use Rattle.regalloc2_checker.specs.Tables.{views, weight}
use Rattle.regalloc2_checker.proofs.analyze.analyze.Given as goal

abbrev pub ghost-propagate_block : goal.ghost-propagate_block
ghost-propagate_block g a = g.o

-- what is under way
abbrev pub invariant-passes : goal.invariant-passes
invariant-passes g l = record {
  named : AreNamed (g.F.Function.function l.f) g.o l.state.values;
  sized : AreSized (g.F.Function.function l.f) l.state.values l.state.reached.items l.state.queue.is_queued.items;
  on_way : IsUnderWay (g.F.Function.function l.f) g.o (views l.state.values l.state.reached.items) l.state.queue.is_queued.items
      (heap_items l.state.queue.heap);
}

abbrev pub decreases-passes : goal.decreases-passes
decreases-passes g l = sum_by weight (views l.state.values l.state.reached.items) + heap_len l.state.queue.heap
