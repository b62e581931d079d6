use Rattle.std.proofs.Common.{rules}
use Rattle.regalloc2_analysis.proofs.liveness.needs.Needs.none_at.Goals as goal

pub returns : goal.returns
returns g c = search rules
