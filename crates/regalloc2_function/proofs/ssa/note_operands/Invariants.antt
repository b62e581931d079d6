use Rattle.std.proofs.Common.{take}
use Rattle.std.specs.Prelude.{filter_map}
use Rattle.regalloc2_function.specs.Inside.Definitions.{NotesDefinitions, operand_definition}
use Rattle.regalloc2_function.proofs.ssa.note_operands.Given as goal

-- the definitions so far are noted
abbrev pub invariant-loop-operand : goal.invariant-loop-operand
invariant-loop-operand l = NotesDefinitions l.fn.defined (filter_map (operand_definition l.inst) (take l.operand-index l.operands)) l.defined
