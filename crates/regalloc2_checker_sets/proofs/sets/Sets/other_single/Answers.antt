use Rattle.regalloc2_checker_sets.proofs.AllSets.{empty-is}
use Rattle.regalloc2_checker_sets.proofs.Bits.{ok-as}
use Rattle.regalloc2_checker_sets.proofs.Lone.{set-is}
use Rattle.regalloc2_checker_sets.proofs.TwoSets.{less-neither, less-second, less-first, less-both}
use Rattle.regalloc2_checker_sets.proofs.sets.Sets.other_single.Goals as goal

pub returns-then-second-bits-clause-found : goal.returns-then-second-bits-clause-found
returns-then-second-bits-clause-found g c =
    ok-as _ _ c.add_pair.result
    (λ n h. set-is c.add_pair.new.self n _ _ (less-neither c.args.first c.args.second c.args.bits c.if-first-bits.true c.if-second-bits.true) h)
    c.add_pair.ensures.found

pub returns-then-first-bits-clause-found : goal.returns-then-first-bits-clause-found
returns-then-first-bits-clause-found g c =
    ok-as _ _ c.single.result
    (λ n h. set-is c.single.new.self n _ _ (less-second c.args.first c.args.second c.args.bits c.if-first-bits.true c.if-second-bits.false) h)
    c.single.ensures.found

pub returns-then-second-bits-2-clause-found : goal.returns-then-second-bits-2-clause-found
returns-then-second-bits-2-clause-found g c =
    empty-is c.args.self.now c.self.inside.kept.items _ c.self.view_is
    (less-both c.args.first c.args.second c.args.bits c.if-first-bits.false c.if-second-bits-2.true)

pub returns-clause-found : goal.returns-clause-found
returns-clause-found g c =
    ok-as _ _ c.single-2.result
    (λ n h. set-is c.single-2.new.self n _ _ (less-first c.args.first c.args.second c.args.bits c.if-first-bits.false c.if-second-bits-2.false) h)
    c.single-2.ensures.found
