use Rattle.std.proofs.Common.{arith, ◌-◌}
use Rattle.regalloc2_checker_sets.specs.EntrySets.{is_member}
use Rattle.regalloc2_checker_sets.proofs.Bits.{ok-as}
use Rattle.regalloc2_checker_sets.proofs.AllSets.{empty-at, one-at, lists-none, lists-one}
use Rattle.regalloc2_checker_sets.proofs.sets.Sets.members.Goals as goal

pub returns-then-set-eq0 : goal.returns-then-set-eq0
returns-then-set-eq0 g c =
    lists-none (is_member c.args.self.now c.args.set) c.new.result.items c.new.ensures.items
    (empty-at c.args.self.now c.self.inside.kept.items c.args.set c.self.view_is c.if-set-eq0.true)

pub returns : goal.returns
returns g c =
    ok-as _ _ c.from_slice.result (λ v h. lists-one (is_member c.args.self.now c.args.set) v.items (c.args.set - 1) h
    (one-at c.args.self.now c.self.inside.kept.items c.args.set (c.args.set - 1) c.self.view_is (omega arith) (omega arith)).members) c.from_slice.ensures.items
