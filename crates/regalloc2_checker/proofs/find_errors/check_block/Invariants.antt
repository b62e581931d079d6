use Rattle.std.proofs.Common.{◌≡◌, ◌≤◌}
use Rattle.regalloc2_function.specs.FunctionValue.{block_at}
use Rattle.regalloc2_function.specs.Machine.{MachineValue}
use Rattle.regalloc2_checker.specs.Showing.{AreTablesKept}
use Rattle.regalloc2_checker.specs.Blocks.{IsKnownWithin}
use Rattle.regalloc2_checker.specs.CheckInputs.{AreStackSlots}
use Rattle.regalloc2_checker.specs.TableFacts.{facts_now, facts_table}
use Rattle.regalloc2_checker.proofs.Blocks.{IsJudgedTo}
use Rattle.regalloc2_checker.proofs.find_errors.check_block.Given as goal

abbrev pub ghost-check_inst : goal.ghost-check_inst
ghost-check_inst g a = g.o

-- the instructions so far are checked
abbrev pub invariant-loop-i : goal.invariant-loop-i
invariant-loop-i g l = record {
  end : l.i-end ≡ (block_at (g.F.Function.function l.by.f.now) l.block).range.end;
  low : (block_at (g.F.Function.function l.by.f.now) l.block).range.first ≤ l.i;
  high : l.i ≤ (block_at (g.F.Function.function l.by.f.now) l.block).range.end;
  kept : AreTablesKept l.fn.values l.values;
  judged : (env : MachineValue) → AreStackSlots env l.by.slots → IsKnownWithin (g.F.Function.function l.by.f.now) g.o l.block (facts_table l.fn.values l.block)
      →
      IsJudgedTo (g.F.Function.function l.by.f.now) env g.o l.block l.i (facts_table l.fn.values l.block) l.initial.errors.items l.errors.items (facts_now
      l.values);
}
