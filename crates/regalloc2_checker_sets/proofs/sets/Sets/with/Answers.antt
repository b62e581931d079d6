use Rattle.std.proofs.Common.{sym, refl}
use Rattle.regalloc2_checker_sets.specs.EntrySets.{is_member}
use Rattle.regalloc2_checker_sets.proofs.AllSets.{empty-at}
use Rattle.regalloc2_checker_sets.proofs.Bits.{ok-as}
use Rattle.regalloc2_checker_sets.proofs.Lone.{with-same, with-empty, set-is}
use Rattle.regalloc2_checker_sets.proofs.sets.Sets.with.Goals as goal

pub returns-then-has-clause-found : goal.returns-then-has-clause-found
returns-then-has-clause-found g c = record {
  below = c.requires;
  members = with-same (is_member c.args.self.now c.args.set) c.args.bits (sym c.if-has.ensures);
}

pub returns-then-set-eq0-clause-found : goal.returns-then-set-eq0-clause-found
returns-then-set-eq0-clause-found g c =
    ok-as _ _ c.single.result
    (λ n h. set-is c.single.new.self n _ _ (with-empty c.args.self.now c.args.set c.args.bits
    (empty-at c.args.self.now c.self.inside.kept.items 0 c.self.view_is refl) c.if-set-eq0.true) h) c.single.ensures.found

pub returns-in-Some-clause-found : goal.returns-in-Some-clause-found
returns-in-Some-clause-found g c = (c.in-Some.ensures c.in-Some.number refl).is
