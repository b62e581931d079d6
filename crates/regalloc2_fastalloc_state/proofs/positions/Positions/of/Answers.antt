use Rattle.std.proofs.Common.{rules}
use Rattle.regalloc2_fastalloc_state.proofs.positions.Positions.of.Goals as goal

pub returns : goal.returns
returns c = search rules
