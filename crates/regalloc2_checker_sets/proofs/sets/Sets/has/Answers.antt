use Rattle.std.proofs.Common.{arith, sym, ◌-◌}
use Rattle.regalloc2_checker_sets.proofs.AllSets.{empty-at, one-at}
use Rattle.regalloc2_checker_sets.proofs.sets.Sets.has.Goals as goal

pub returns-then-set-eq0 : goal.returns-then-set-eq0
returns-then-set-eq0 g c = sym (empty-at c.args.self.now c.self.inside.kept.items c.args.set c.self.view_is c.if-set-eq0.true c.args.bits)

pub returns : goal.returns
returns g c = sym ((one-at c.args.self.now c.self.inside.kept.items c.args.set (c.args.set - 1) c.self.view_is (omega arith) (omega arith)).members c.args.bits)
