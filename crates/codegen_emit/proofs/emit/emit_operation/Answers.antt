use Rattle.std.proofs.Common.{rules}
use Rattle.codegen_emit.proofs.emit.emit_operation.Goals as goal

pub returns-in-Argument : goal.returns-in-Argument
returns-in-Argument c = search rules

pub returns-in-Constant : goal.returns-in-Constant
returns-in-Constant c = search rules

pub returns-in-Copy : goal.returns-in-Copy
returns-in-Copy c = search rules

pub returns-in-Compute : goal.returns-in-Compute
returns-in-Compute c = search rules

pub returns-in-Shift : goal.returns-in-Shift
returns-in-Shift c = search rules

pub returns-in-Divide : goal.returns-in-Divide
returns-in-Divide c = search rules

pub returns-in-Compare : goal.returns-in-Compare
returns-in-Compare c = search rules

pub returns-in-Select : goal.returns-in-Select
returns-in-Select c = search rules

pub returns-in-Load : goal.returns-in-Load
returns-in-Load c = search rules

pub returns-in-Store : goal.returns-in-Store
returns-in-Store c = search rules

pub returns-in-Call : goal.returns-in-Call
returns-in-Call c = search rules

pub returns-in-Jump : goal.returns-in-Jump
returns-in-Jump c = search rules

pub returns-in-BranchIf : goal.returns-in-BranchIf
returns-in-BranchIf c = search rules

pub returns-in-BranchIfHolds : goal.returns-in-BranchIfHolds
returns-in-BranchIfHolds c = search rules

pub returns-in-Return : goal.returns-in-Return
returns-in-Return c = search rules
