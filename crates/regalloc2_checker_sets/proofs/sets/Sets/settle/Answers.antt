use Rattle.std.proofs.Common.{refl}
use Rattle.regalloc2_checker_sets.specs.EntrySets.{has_bits}
use Rattle.regalloc2_checker_sets.proofs.AllSets.{empty-is}
use Rattle.regalloc2_checker_sets.proofs.Bits.{ok-as}
use Rattle.regalloc2_checker_sets.proofs.Lone.{is-only_member, set-is}
use Rattle.regalloc2_checker_sets.proofs.sets.Sets.settle.Goals as goal

pub returns-in_default-clause-found : goal.returns-in_default-clause-found
returns-in_default-clause-found g c = empty-is c.args.self.now c.self.inside.kept.items (has_bits c.args.set) c.self.view_is (c.in_default.ensures.none refl)

pub returns-then-has_no_other-clause-found : goal.returns-then-has_no_other-clause-found
returns-then-has_no_other-clause-found g c =
    ok-as _ _ c.single.result
    (λ n h. set-is c.single.new.self n _ _ (is-only_member c.args.set c.in-Some.member (c.in-Some.ensures.some c.in-Some.member refl) (c.if-has_no_other.ensures
    refl)) h) c.single.ensures.found
