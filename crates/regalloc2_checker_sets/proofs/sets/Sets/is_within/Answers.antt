use Rattle.std.proofs.Common.{arith, ◌-◌}
use Rattle.regalloc2_index.proofs.Bools.{not_both}
use Rattle.regalloc2_checker_sets.specs.EntrySets.{has_bits, is_member}
use Rattle.regalloc2_checker_sets.proofs.AllSets.{empty-at, one-at, within-as, less-as}
use Rattle.regalloc2_checker_sets.proofs.Lone.{lone-within, lone-less}
use Rattle.regalloc2_checker_sets.proofs.sets.Sets.is_within.Goals as goal

pub returns-then-set-ge-FIRST-clause-yes : goal.returns-then-set-ge-FIRST-clause-yes
returns-then-set-ge-FIRST-clause-yes g c =
    within-as (has_bits c.kept.result.now) (is_member c.args.self.now c.args.set) (is_member c.args.self.now c.args.other) c.is_within.result c.kept.ensures
    c.is_within.ensures.yes

pub returns-then-set-ge-FIRST-clause-no : goal.returns-then-set-ge-FIRST-clause-no
returns-then-set-ge-FIRST-clause-no g c =
    less-as (has_bits c.kept.result.now) (is_member c.args.self.now c.args.set) (is_member c.args.self.now c.args.other) c.is_within.result c.kept.ensures
    c.is_within.ensures.no

pub returns-then-set-eq0-clause-yes : goal.returns-then-set-eq0-clause-yes
returns-then-set-eq0-clause-yes g c y h =
    absurd (not_both (is_member c.args.self.now c.args.set y) h
    (empty-at c.args.self.now c.self.inside.kept.items c.args.set c.self.view_is c.if-set-eq0.true y))

pub returns-clause-yes : goal.returns-clause-yes
returns-clause-yes g c =
    lone-within (is_member c.args.self.now c.args.set) (is_member c.args.self.now c.args.other) (c.args.set - 1) c.has.result
    (one-at c.args.self.now c.self.inside.kept.items c.args.set (c.args.set - 1) c.self.view_is (omega arith) (omega arith)).members c.has.ensures

pub returns-clause-no : goal.returns-clause-no
returns-clause-no g c =
    lone-less c.args.self.now c.args.set (c.args.set - 1) (is_member c.args.self.now c.args.other) c.has.result
    (one-at c.args.self.now c.self.inside.kept.items c.args.set (c.args.set - 1) c.self.view_is (omega arith) (omega arith)) c.has.ensures
