use Rattle.std.proofs.Common.{sym}
use Rattle.regalloc2_checker_sets.specs.EntrySets.{is_member}
use Rattle.regalloc2_checker_sets.proofs.AllSets.{empty-is}
use Rattle.regalloc2_checker_sets.proofs.Bits.{ok-as}
use Rattle.regalloc2_checker_sets.proofs.Lone.{set-is}
use Rattle.regalloc2_checker_sets.proofs.TwoSets.{meet-both, meet-first, meet-second, meet-none}
use Rattle.regalloc2_checker_sets.proofs.sets.Sets.both_of_two.Goals as goal

pub returns-then-has-2-clause-found : goal.returns-then-has-2-clause-found
returns-then-has-2-clause-found g c =
    ok-as _ _ c.add_pair.result
    (λ n h. set-is c.add_pair.new.self n _ _ (meet-both (is_member c.args.self.now c.args.other) c.args.first c.args.second (sym c.if-has.ensures)
    (sym c.if-has-2.ensures)) h) c.add_pair.ensures.found

pub returns-then-has-clause-found : goal.returns-then-has-clause-found
returns-then-has-clause-found g c =
    ok-as _ _ c.single.result
    (λ n h. set-is c.single.new.self n _ _ (meet-first (is_member c.args.self.now c.args.other) c.args.first c.args.second (sym c.if-has.ensures)
    (sym c.if-has-2.ensures)) h) c.single.ensures.found

pub returns-then-has-3-clause-found : goal.returns-then-has-3-clause-found
returns-then-has-3-clause-found g c =
    ok-as _ _ c.single-then-has-3.result
    (λ n h. set-is c.single-then-has-3.new.self n _ _ (meet-second (is_member c.args.self.now c.args.other) c.args.first c.args.second (sym c.if-has.ensures)
    (sym c.if-has-3.ensures)) h) c.single-then-has-3.ensures.found

pub returns-clause-found : goal.returns-clause-found
returns-clause-found g c =
    empty-is c.args.self.now c.self.inside.kept.items _ c.self.view_is
    (meet-none (is_member c.args.self.now c.args.other) c.args.first c.args.second (sym c.if-has.ensures) (sym c.if-has-3.ensures))
