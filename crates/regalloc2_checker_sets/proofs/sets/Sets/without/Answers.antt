use Rattle.std.proofs.Common.{sym, refl}
use Rattle.regalloc2_checker_sets.specs.EntrySets.{is_member}
use Rattle.regalloc2_checker_sets.proofs.AllSets.{empty-is}
use Rattle.regalloc2_checker_sets.proofs.Lone.{without-same, without-lone}
use Rattle.regalloc2_checker_sets.proofs.sets.Sets.without.Goals as goal

pub returns-then-not-has-clause-found : goal.returns-then-not-has-clause-found
returns-then-not-has-clause-found g c = record {
  below = c.requires;
  members = without-same (is_member c.args.self.now c.args.set) c.args.bits (sym c.if-not-has.ensures);
}

pub returns-in-Some-clause-found : goal.returns-in-Some-clause-found
returns-in-Some-clause-found g c =
    empty-is c.args.self.now c.self.inside.kept.items _ c.self.view_is
    (without-lone c.args.self.now c.args.set c.args.bits c.in-Some._only (c.in-Some.ensures c.in-Some._only refl) (sym c.if-not-has.ensures))
