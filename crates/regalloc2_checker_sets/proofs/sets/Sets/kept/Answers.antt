use Rattle.std.proofs.Common.{[], arith, ap, sym, ◌∙◌, refl, ◌-◌}
use Rattle.regalloc2_checker_sets.specs.EntrySets.{has_bits}
use Rattle.regalloc2_checker_sets.proofs.AllSets.{all-long, kept-at}
use Rattle.regalloc2_checker_sets.proofs.Bits.{read-is}
use Rattle.regalloc2_checker_sets.proofs.sets.Sets.kept.Goals as goal

pub index-requires : goal.index-requires
index-requires g c = let a = all-long c.args.self.now c.self.inside.kept.items c.self.view_is in omega (arith, a, c.self.inside.kept.ok.0, c.requires.set)

pub returns : goal.returns
returns g c y =
    let a = all-long c.args.self.now c.self.inside.kept.items c.self.view_is in
    ap (λ s. has_bits s y)
    (read-is c.self.inside.kept.items c.self.inside.kept.items (c.args.set - 2147483648) c.index.result.now [] refl (omega (arith, a, c.requires.set))
    c.index.ensures
    ∙ sym (kept-at c.args.self.now c.self.inside.kept.items c.args.set (c.args.set - 2147483648) c.self.view_is (omega arith)))
