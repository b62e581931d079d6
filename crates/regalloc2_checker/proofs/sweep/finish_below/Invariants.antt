use Rattle.std.proofs.Common.{ℕ, ◌≡◌, ◌<◌, ◌≤◌, true, false, length, get_or}
use Rattle.std.specs.Prelude.{None}
use Rattle.regalloc2_checker.specs.Swept.{done_at, IsFurther, IsSweptOn}
use Rattle.regalloc2_checker.specs.Tables.{views}
use Rattle.regalloc2_checker.proofs.sweep.finish_below.Given as goal

abbrev pub ghost-finish : goal.ghost-finish
ghost-finish g a = g.o

-- the blocks so far are done, if no rank is given
abbrev pub invariant-loop-b : goal.invariant-loop-b
invariant-loop-b g l = record {
  within : l.b-end ≡ length (g.F.Function.function l.by.f.now).blocks;
  low : l.b ≤ length (g.F.Function.function l.by.f.now).blocks;
  further : IsFurther l.fn.sweep.state.values l.sweep.state.values l.fn.sweep.state.reached.items l.sweep.state.reached.items l.fn.sweep.is_done.items
      l.sweep.is_done.items;
  queue : l.sweep.state.queue ≡ l.fn.sweep.state.queue;
  swept : IsSweptOn g.row.A.Denot (g.F.Function.function l.by.f.now) g.o l.by.slots l.fn.sweep.is_done.items l.sweep.is_done.items
      (views l.fn.sweep.state.values l.fn.sweep.state.reached.items) (views l.sweep.state.values l.sweep.state.reached.items);
  all : l.rank ≡ None → (b : ℕ) → b < l.b → get_or l.fn.sweep.state.reached.items b false ≡ true → done_at l.sweep.is_done.items b ≡ true;
}
