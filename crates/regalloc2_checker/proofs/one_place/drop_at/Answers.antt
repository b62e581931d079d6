use Rattle.std.proofs.Common.{arith}
use Rattle.regalloc2_checker_sets.specs.SavedNumbers.{number_now}
use Rattle.regalloc2_checker_sets.specs.EntrySets.{is_member}
use Rattle.regalloc2_checker.proofs.OnePlace.{dropped-at}
use Rattle.regalloc2_checker.proofs.one_place.drop_at.Goals as goal

pub returns-clause-ok : goal.returns-clause-ok
returns-clause-ok g c =
    dropped-at (is_member c.without.new.self) (is_member c.args.sets.now) c.args.entries.now c.set.new.self c.args.place c.args.bits c.get-set.result
    c.in_ok-less.less (omega (arith, c.if-place-len.false, c.len.ensures)) c.set.ensures c.get-set.ensures c.in_ok-less.ensures.found.members
    (λ i y l. c.in_ok-less.ensures.more.kept (number_now c.args.entries.now i) y (c.requires i l))
