use Rattle.std.proofs.Common.{length, ◌≤◌, arith, subst}
use Rattle.regalloc2_checker_sets.specs.Homes.{HomeEntry, home_of, IsMoreHome}
use Rattle.regalloc2_checker_sets.proofs.HomeLists.{entry-kept, entry-moved}
use Rattle.regalloc2_checker_sets.proofs.homes.index_of.Goals as goal

pub returns-clause-kept : goal.returns-clause-kept
returns-clause-kept g c =
    let old : HomeEntry = record {
      low = c.entry.inside.low;
      first = c.entry.inside.first;
      second = c.entry.inside.second;
      index = c.entry.inside.index;
    } in
    let past : length c.args.more.now ≤ c.entry.inside.index = omega (arith, c.if-entry-end.false, c.len-end.ensures) in
    subst (λ (e : HomeEntry). IsMoreHome (home_of c.args.more.now e) (home_of c.push.new.self (record old { index = c.in-Ok.index })))
    c.entry.view_is (entry-moved c.args.more.now c.push.new.self old c.in-Ok.index past)

pub returns-in_err-push-clause-kept : goal.returns-in_err-push-clause-kept
returns-in_err-push-clause-kept g c = entry-kept c.args.more.now c.push.new.self c.args.entry.now c.in_err-push.ensures.more
