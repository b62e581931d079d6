use Rattle.std.proofs.Common.{List, ◌∙◌, arith}
use Rattle.regalloc2_function.specs.FunctionValue.{FunctionValue}
use Rattle.regalloc2_function.specs.OutputValue.{OutputValue}
use Rattle.regalloc2_function.specs.Views.{output_of}
use Rattle.regalloc2_checker.specs.Tables.{BlockView, views}
use Rattle.regalloc2_checker.proofs.Queues.{alike-same}
use Rattle.regalloc2_checker.proofs.Sweeps.{sweep-tables, swept-first}
use Rattle.regalloc2_checker.proofs.sweep.start_sweep.Goals as goal

pub returns : goal.returns
returns g c = λ slots.
    let f : FunctionValue = g.F.Function.function c.args.f.now in
    let o : OutputValue = output_of c.args.out.now in
    let s = c.in_ok-state.ensures in
    let m = c.in_ok-is_done.ensures in
    let state = c.in_ok-state.state in
    let marks = c.in_ok-is_done.is_done in
    let first : List BlockView = views state.values state.reached.items in
    record {
      tables = sweep-tables f o state.values state.values state.reached.items marks.items state.queue.is_queued.items (alike-same state.values) s.named
          s.sized (m.long ∙ c.num_blocks.ensures.count);
      known = first;
      swept = swept-first g.row.A.Denot f o slots marks.items first (λ b d less. m.none b d (omega (arith, less, m.long)));
      on_way = s.on_way o;
    }
