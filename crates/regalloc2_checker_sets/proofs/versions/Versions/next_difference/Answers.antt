use Rattle.std.proofs.Common.{[], get_or, map, ap, sym, ◌∙◌}
use Rattle.regalloc2_checker_sets.specs.SavedCopies.{Copies}
use Rattle.regalloc2_checker_sets.proofs.Rows.{row-is, row-less, within-as}
use Rattle.regalloc2_checker_sets.proofs.versions.Versions.next_difference.Goals as goal

pub first_difference-requires-clause-within : goal.first_difference-requires-clause-within
first_difference-requires-clause-within g c =
    let row = row-is c.self.inside.saved.items c.args.copy c.index.result.now
    (row-less c.self.inside.saved.items c.args.self.now.saved c.args.copy (ap (λ (v : Copies). v.saved) c.self.view_is) c.requires) c.index.ensures in
    within-as c.self.inside.words.items c.deref.result.now (get_or (map (λ b. b.items) c.self.inside.saved.items) c.args.copy []) c.deref-2.result.now
    (sym c.deref.ensures.value) (row ∙ sym c.deref-2.ensures.value) (c.self.invariant.within c.args.copy)
