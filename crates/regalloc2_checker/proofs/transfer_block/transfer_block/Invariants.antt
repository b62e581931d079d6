use Rattle.std.proofs.Common.{◌≡◌, ◌≤◌, ◌-◌}
use Rattle.regalloc2_function.specs.FunctionValue.{block_at}
use Rattle.regalloc2_checker.specs.Showing.{AreTablesKept}
use Rattle.regalloc2_checker.specs.Fixpoint.{facts_within}
use Rattle.regalloc2_checker.specs.TableFacts.{facts_now}
use Rattle.regalloc2_checker.proofs.transfer_block.transfer_block.Given as goal

abbrev pub ghost-transfer_inst : goal.ghost-transfer_inst
ghost-transfer_inst g a = g.o

-- the instructions so far are run
abbrev pub invariant-loop-i : goal.invariant-loop-i
invariant-loop-i g l = record {
  end : l.i-end ≡ (block_at (g.F.Function.function l.f) l.block).range.end;
  low : (block_at (g.F.Function.function l.f) l.block).range.first ≤ l.i;
  high : l.i ≤ (block_at (g.F.Function.function l.f) l.block).range.end;
  kept : AreTablesKept l.initial.values l.values;
  now : facts_now l.values ≡ facts_within (g.F.Function.function l.f) g.o l.block (facts_now l.initial.values)
      (l.i - (block_at (g.F.Function.function l.f) l.block).range.first);
}
