use Rattle.regalloc2_checker_sets.specs.Homes.{home_of}
use Rattle.regalloc2_checker_sets.proofs.HomeLists.{entry-kept, entry-has, home-then}
use Rattle.regalloc2_checker_sets.proofs.Results.{on_ok_as}
use Rattle.regalloc2_checker_sets.proofs.homes.add_more.Goals as goal

pub returns-clause-kept : goal.returns-clause-kept
returns-clause-kept g c =
    let entry = c.index_of.new.entry in
    home-then (home_of c.args.more.now c.args.entry.now) (home_of c.index_of.new.more entry) (home_of c.add.new.self entry) c.in_ok-index.ensures.kept
    (entry-kept c.index_of.new.more c.add.new.self entry c.add.ensures.more)

pub returns-clause-added : goal.returns-clause-added
returns-clause-added g c =
    on_ok_as _ _ c.add.result (entry-has c.add.new.self c.index_of.new.entry c.in_ok-index.index c.args.place c.in_ok-index.ensures.at.1) c.add.ensures.added
