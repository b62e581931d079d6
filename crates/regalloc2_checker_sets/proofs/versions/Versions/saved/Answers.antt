use Rattle.std.proofs.Common.{◌/◌, [], get_or, map, arith, ap, sym, ◌∙◌, refl}
use Rattle.regalloc2_checker_sets.specs.SavedCopies.{Copies}
use Rattle.regalloc2_checker_sets.proofs.Rows.{row-is, row-less, within-as}
use Rattle.regalloc2_checker_sets.proofs.versions.Versions.saved.Goals as goal

pub overflow_add-base : goal.overflow_add-base
overflow_add-base g c =
    let row = row-is c.self.inside.saved.items c.args.copy c.index.result.now
    (row-less c.self.inside.saved.items c.args.self.now.saved c.args.copy (ap (λ (v : Copies). v.saved) c.self.view_is) c.requires) c.index.ensures in
    let w = within-as c.self.inside.words.items c.self.inside.words.items (get_or (map (λ b. b.items) c.self.inside.saved.items) c.args.copy [])
    c.deref.result.now refl (row ∙ sym c.deref.ensures.value) (c.self.invariant.within c.args.copy) (c.args.position / 64) in
    omega (arith, w, c.base_of-base.ensures, c.self.inside.words.ok.0, c.self.inside.words.ok.1, c.self.inside.words.small)

pub index-requires-2 : goal.index-requires-2
index-requires-2 g c =
    let row = row-is c.self.inside.saved.items c.args.copy c.index.result.now
    (row-less c.self.inside.saved.items c.args.self.now.saved c.args.copy (ap (λ (v : Copies). v.saved) c.self.view_is) c.requires) c.index.ensures in
    let w = within-as c.self.inside.words.items c.self.inside.words.items (get_or (map (λ b. b.items) c.self.inside.saved.items) c.args.copy [])
    c.deref.result.now refl (row ∙ sym c.deref.ensures.value) (c.self.invariant.within c.args.copy) (c.args.position / 64) in
    omega (arith, w, c.base_of-base.ensures, c.self.inside.words.ok.0)
