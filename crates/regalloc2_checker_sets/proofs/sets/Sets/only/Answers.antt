use Rattle.std.proofs.Common.{arith, ◌-◌}
use Rattle.regalloc2_checker_sets.proofs.AllSets.{one-at}
use Rattle.regalloc2_checker_sets.proofs.Lone.{same-some}
use Rattle.regalloc2_checker_sets.proofs.sets.Sets.only.Goals as goal

pub returns : goal.returns
returns g c b e =
    let q = same-some (c.args.set - 1) b e in
    one-at c.args.self.now c.self.inside.kept.items c.args.set b c.self.view_is (omega arith) (omega arith)
