use Rattle.std.proofs.Common.{refl}
use Rattle.regalloc2_checker_sets.specs.EntrySets.{is_member}
use Rattle.regalloc2_checker_sets.proofs.Bits.{ok-as}
use Rattle.regalloc2_checker_sets.proofs.Lone.{set-is}
use Rattle.regalloc2_checker_sets.proofs.TwoSets.{pair-more}
use Rattle.regalloc2_checker_sets.proofs.sets.Sets.added.Goals as goal

pub returns-in-Some-clause-found : goal.returns-in-Some-clause-found
returns-in-Some-clause-found g c =
    let is = c.in-Some.ensures c.in-Some.only refl in
    ok-as _ _ c.add_pair.result
    (λ n h. set-is c.add_pair.new.self n _ _ (pair-more (is_member c.args.self.now c.args.set) c.args.bits c.in-Some.only is.members) h)
    c.add_pair.ensures.found

pub returns-in-Some-clause-more : goal.returns-in-Some-clause-more
returns-in-Some-clause-more g c = c.add_pair.ensures.more

pub returns-clause-more : goal.returns-clause-more
returns-clause-more g c = c.add.ensures.more

pub changed-requires : goal.changed-requires
changed-requires g c = c.requires

pub returns-clause-found : goal.returns-clause-found
returns-clause-found g c =
    ok-as _ _ c.add.result (λ n h. set-is c.add.new.self n _ _ c.in_ok-more.ensures h) c.add.ensures.found
