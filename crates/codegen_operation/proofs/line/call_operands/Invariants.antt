use Rattle.std.proofs.Common.{◌≡◌, take}
use Rattle.codegen_operation.specs.Operands.{call_operands}
use Rattle.codegen_operation.proofs.line.call_operands.Given as goal

abbrev pub invariant-loop-index : goal.invariant-loop-index
invariant-loop-index l = l.operands.items ≡ call_operands l.fn.to (take l.index l.arguments)
