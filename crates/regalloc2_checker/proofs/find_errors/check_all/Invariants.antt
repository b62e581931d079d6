use Rattle.std.proofs.Common.{◌≡◌, ◌≤◌, length}
use Rattle.regalloc2_function.specs.Machine.{MachineValue}
use Rattle.regalloc2_checker.specs.Showing.{AreTablesKept}
use Rattle.regalloc2_checker.specs.CheckInputs.{AreStackSlots}
use Rattle.regalloc2_checker.specs.Report.{BlockReports}
use Rattle.regalloc2_checker.proofs.find_errors.check_all.Given as goal

abbrev pub ghost-check_block : goal.ghost-check_block
ghost-check_block g a = g.o

-- the blocks so far are checked
abbrev pub invariant-loop-b : goal.invariant-loop-b
invariant-loop-b g l = record {
  within : l.b-end ≡ length (g.F.Function.function l.f).blocks;
  low : l.b ≤ length (g.F.Function.function l.f).blocks;
  kept : AreTablesKept l.fn.values l.values;
  reports : (env : MachineValue) → AreStackSlots env l.by.slots → BlockReports (g.F.Function.function l.f) env g.o l.b l.errors.items;
}
