use Rattle.std.proofs.Common.{arith}
use Rattle.regalloc2_checker_sets.proofs.AllSets.{all-long}
use Rattle.regalloc2_checker_sets.proofs.Lone.{same-some}
use Rattle.regalloc2_checker_sets.proofs.sets.Sets.known_at.Goals as goal

pub returns : goal.returns
returns g c n e =
    let a = all-long c.args.self.now c.self.inside.kept.items c.self.view_is in
    let q = same-some _ n e in
    (omega arith, omega (arith, a, q, c.len.ensures, c.self.inside.kept.ok.0))
