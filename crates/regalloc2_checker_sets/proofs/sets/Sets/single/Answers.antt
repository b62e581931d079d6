use Rattle.std.proofs.Common.{arith, refl, ◌+◌}
use Rattle.regalloc2_checker_sets.proofs.AllSets.{one-at}
use Rattle.regalloc2_checker_sets.proofs.sets.Sets.single.Goals as goal

pub returns-then-bits-clause-found : goal.returns-then-bits-clause-found
returns-then-bits-clause-found g c = one-at c.args.self.now c.self.inside.kept.items (c.args.bits + 1) c.args.bits c.self.view_is refl (omega arith)
