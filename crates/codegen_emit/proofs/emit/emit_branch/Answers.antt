use Rattle.std.proofs.Common.{rules}
use Rattle.std.proofs.lemmas.Grind.{common_steps}
use Rattle.codegen_emit.proofs.emit.emit_branch.Goals as goal

pub returns : goal.returns
returns c = search (rules, common_steps)
