use Rattle.std.proofs.Common.{◌≤◌, ◌⊎◌, take}
use Rattle.std.specs.Prelude.{All}
use Rattle.regalloc2_function.specs.Inside.TableLength.{IsBelow, ReachedByDef}
use Rattle.regalloc2_function.proofs.table_length.above_operands.Given as goal

-- the bound is above what the operands so far define
abbrev pub invariant-loop-operand : goal.invariant-loop-operand
invariant-loop-operand l = record {
  rises : l.bound ≤ l.above;
  above : All (IsBelow l.above) (take l.operand-index l.operands);
  near : (l.above ≤ l.bound) ⊎ ReachedByDef l.operands l.above;
}
