use Rattle.std.proofs.Common.{arith}
use Rattle.regalloc2_checker_sets.specs.EntrySets.{is_member}
use Rattle.regalloc2_checker.proofs.OnePlace.{both-at}
use Rattle.regalloc2_checker.proofs.one_place.meet_at.Goals as goal

pub returns-clause-met : goal.returns-clause-met
returns-clause-met g c =
    both-at (is_member c.common.new.self) (is_member c.args.sets.now) c.args.entries.now c.set.new.self c.args.place c.args.had c.get-2.result
    c.in_ok-common.common c.requires.place c.set.ensures c.get-2.ensures c.in_ok-common.ensures.found.members

pub returns-clause-less : goal.returns-clause-less
returns-clause-less g c = grind arith

pub returns-clause-same : goal.returns-clause-same
returns-clause-same g c = grind arith
