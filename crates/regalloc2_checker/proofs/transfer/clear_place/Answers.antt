use Rattle.std.proofs.Common.{sym}
use Rattle.regalloc2_checker.specs.Showing.{shows_now}
use Rattle.regalloc2_checker.proofs.TableSteps.{cleared-is, cleared-unlisted}
use Rattle.regalloc2_checker.proofs.transfer.clear_place.Goals as goal

pub returns-in-Some-clause-now : goal.returns-in-Some-clause-now
returns-in-Some-clause-now g c =
    cleared-is c.args.values.now c.clear.new.self c.args.place c.in-Some.place c.requires (sym c.in-Some.ensures.position) c.position.ensures.packed
    c.clear.ensures.kept.places c.clear.ensures.now

pub returns-in_default-clause-now : goal.returns-in_default-clause-now
returns-in_default-clause-now g c =
    cleared-unlisted c.args.values.now.places (shows_now c.args.values.now) c.args.place (sym c.in_default.ensures.position)
