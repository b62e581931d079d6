use Rattle.std.proofs.Common.{false, nat_eq, ap, sym}
use Rattle.std.specs.Prelude.{◌&&◌, if◌then◌else◌}
use Rattle.regalloc2_checker_sets.specs.Held.{held}
use Rattle.regalloc2_checker_sets.proofs.HomeLaws.{few-none}
use Rattle.regalloc2_checker.proofs.Holders.{still-same}
use Rattle.regalloc2_checker.proofs.tables.drop_few.Goals as goal

pub returns-then-has_no_few-clause-still : goal.returns-then-has_no_few-clause-still
returns-then-has_no_few-clause-still g c = still-same c.args.sets.now c.args.entries.now c.requires

pub returns-then-has_no_few-clause-ok : goal.returns-then-has_no_few-clause-ok
returns-then-has_no_few-clause-ok g c i y l =
    let z = c.has_no_few.ensures c.if-has_no_few.true in
    sym (ap (λ b. if b && nat_eq y c.args.bits then false else held c.args.sets.now c.args.entries.now i y) (few-none c.args.home.now z.0 z.1 z.2 z.3 i))
