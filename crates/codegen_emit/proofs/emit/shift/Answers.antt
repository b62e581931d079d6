use Rattle.std.proofs.Common.{rules}
use Rattle.codegen_emit.proofs.emit.shift.Goals as goal

pub returns-in-VReg : goal.returns-in-VReg
returns-in-VReg c = search rules

pub returns-in-Number : goal.returns-in-Number
returns-in-Number c = search rules
