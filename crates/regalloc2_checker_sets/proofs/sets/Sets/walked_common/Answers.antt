use Rattle.std.proofs.Common.{arith}
use Rattle.regalloc2_checker_sets.specs.EntrySets.{is_member}
use Rattle.regalloc2_checker_sets.proofs.AllSets.{empty-is, few-apart}
use Rattle.regalloc2_checker_sets.proofs.Bits.{within-and}
use Rattle.regalloc2_checker_sets.proofs.sets.Sets.walked_common.Goals as goal

pub returns-then-is_within-clause-found : goal.returns-then-is_within-clause-found
returns-then-is_within-clause-found g c = record {
  below = c.requires.set;
  members = within-and (is_member c.args.self.now c.args.set) (is_member c.args.self.now c.args.other) c.if-is_within.ensures.yes;
}

pub returns-then-set-lt-FIRST-clause-found : goal.returns-then-set-lt-FIRST-clause-found
returns-then-set-lt-FIRST-clause-found g c =
    empty-is c.args.self.now c.self.inside.kept.items _ c.self.view_is
    (few-apart c.args.self.now c.self.inside.kept.items c.args.set (is_member c.args.self.now c.args.other) c.self.view_is (omega arith)
    c.if-is_within.ensures.no)
