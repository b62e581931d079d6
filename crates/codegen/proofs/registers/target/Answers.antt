use Rattle.codegen.proofs.Targets.{is_target}
use Rattle.codegen.proofs.registers.target.Goals as goal

pub returns : goal.returns
returns c =
    is_target c.registers.result c.empty-none.result c.new.result.items c.registers.ensures.general c.registers.ensures.all c.empty-none.ensures.none c.new.ensures.items
