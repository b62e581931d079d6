use Rattle.std.proofs.Common.{◌≡◌, ◌≤◌, ◌+◌, List, Bool, length}
use Rattle.std.specs.Prelude.{sum_by}
use Rattle.std.specs.BinaryHeap.{heap_items, heap_len}
use Rattle.regalloc2_function.specs.FunctionValue.{block_at}
use Rattle.regalloc2_checker.specs.Propagation.{IsQueue, IsReady, IsBlockEnd, AreSized}
use Rattle.regalloc2_checker.specs.Swept.{laid, LeadsToNoneDone}
use Rattle.regalloc2_checker.specs.TableFacts.{facts_now, facts_table}
use Rattle.regalloc2_checker.specs.Tables.{BlockView, ListTheSame, facts_at, views, weight}
use Rattle.regalloc2_checker.proofs.UnmarkedStaySolved.{ArePassedOn}
use Rattle.regalloc2_checker.proofs.analyze.propagate_edges.Given as goal

-- the first k edges are propagated
abbrev pub invariant-loop-k : goal.invariant-loop-k
invariant-loop-k g l = record {
  last : l.k-end ≡ length (block_at (g.F.Function.function l.f) l.block).succs;
  low : l.k ≤ length (block_at (g.F.Function.function l.f) l.block).succs;
  alike : ListTheSame l.fn.state.values l.state.values;
  sized : AreSized (g.F.Function.function l.f) l.state.values l.state.reached.items l.state.queue.is_queued.items;
  table : facts_table l.state.values (length (g.F.Function.function l.f).blocks) ≡ facts_now l.fn.state.values;
  done : (done : List Bool) (vs : List BlockView) → LeadsToNoneDone (g.F.Function.function l.f) done l.block
      → IsReady (g.F.Function.function l.f) g.o (laid done vs (views l.fn.state.values l.fn.state.reached.items)) l.fn.state.queue.is_queued.items
      (heap_items l.fn.state.queue.heap) l.block
      → IsBlockEnd (g.F.Function.function l.f) g.o l.block (facts_at (laid done vs (views l.fn.state.values l.fn.state.reached.items)) l.block)
      (facts_now l.fn.state.values)
      → ArePassedOn (g.F.Function.function l.f) g.o (laid done vs (views l.fn.state.values l.fn.state.reached.items))
      (laid done vs (views l.state.values l.state.reached.items)) l.state.queue.is_queued.items (heap_items l.state.queue.heap) l.block l.k;
  queue : IsQueue l.state.queue.is_queued.items (heap_items l.state.queue.heap);
  falls : sum_by weight (views l.state.values l.state.reached.items) + heap_len l.state.queue.heap
      ≤ sum_by weight (views l.fn.state.values l.fn.state.reached.items) + heap_len l.fn.state.queue.heap;
}
