use Rattle.std.proofs.Common.{arith}
use Rattle.regalloc2_checker_sets.proofs.AllSets.{all-long}
use Rattle.regalloc2_checker_sets.proofs.sets.Sets.kept_count.Goals as goal

pub returns : goal.returns
returns g c = let a = all-long c.args.self.now c.self.inside.kept.items c.self.view_is in omega (arith, a, c.len.ensures, c.self.inside.kept.ok.0)
