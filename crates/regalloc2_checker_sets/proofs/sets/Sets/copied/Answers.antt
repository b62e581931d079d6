use Rattle.std.proofs.Common.{arith, sym, ◌∙◌, ◌-◌}
use Rattle.regalloc2_checker_sets.proofs.AllSets.{empty-at, one-at}
use Rattle.regalloc2_checker_sets.proofs.Bits.{none-is}
use Rattle.regalloc2_checker_sets.proofs.Lone.{single-is}
use Rattle.regalloc2_checker_sets.proofs.sets.Sets.copied.Goals as goal

pub returns-then-set-eq0 : goal.returns-then-set-eq0
returns-then-set-eq0 g c y =
    none-is c.new-copy.result c.new-copy.ensures y ∙ sym (empty-at c.args.self.now c.self.inside.kept.items c.args.set c.self.view_is c.if-set-eq0.true y)

pub returns : goal.returns
returns g c y =
    single-is c.new-copy.result c.set.new.self (c.args.set - 1) (omega arith) c.new-copy.ensures c.in_ok-set.ensures.ok y
    ∙ sym ((one-at c.args.self.now c.self.inside.kept.items c.args.set (c.args.set - 1) c.self.view_is (omega arith) (omega arith)).members y)
