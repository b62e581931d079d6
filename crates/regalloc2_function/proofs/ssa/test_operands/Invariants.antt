use Rattle.std.proofs.Common.{take}
use Rattle.std.specs.Prelude.{All, filter_map}
use Rattle.regalloc2_function.specs.Inside.Definitions.{IsUsable, operand_read}
use Rattle.regalloc2_function.proofs.ssa.test_operands.Given as goal

-- the reads so far are usable
abbrev pub invariant-loop-operand : goal.invariant-loop-operand
invariant-loop-operand l = All (IsUsable l.defined) (filter_map (operand_read l.inst) (take l.operand-index l.operands))
