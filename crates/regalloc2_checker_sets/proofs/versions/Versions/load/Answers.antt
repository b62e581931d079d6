use Rattle.std.proofs.Common.{ℕ, List, [], length, get_or, map, arith, ap, sym, ◌∙◌}
use Rattle.std.specs.Prelude.{Option}
use Rattle.std.specs.Vec.{with_items}
use Rattle.std.proofs.lemmas.List.{with_items_is}
use Rattle.regalloc2_checker_sets.specs.SavedCopies.{Copies, saved_at, number_in}
use Rattle.regalloc2_checker_sets.proofs.Rows.{row-is, row-less, within-as}
use Rattle.regalloc2_checker_sets.proofs.Rows.{clean-as}
use Rattle.regalloc2_checker_sets.proofs.versions.Versions.load.Goals as goal

pub load_all-requires-clause-within : goal.load_all-requires-clause-within
load_all-requires-clause-within g c =
    let row = row-is c.self.inside.saved.items c.args.copy c.index.result.now
    (row-less c.self.inside.saved.items c.args.self.now.saved c.args.copy (ap (λ (v : Copies). v.saved) c.self.view_is) c.requires) c.index.ensures in
    within-as c.self.inside.words.items c.deref.result.now (get_or (map (λ b. b.items) c.self.inside.saved.items) c.args.copy []) c.deref-2.result.now
    (sym c.deref.ensures.value) (row ∙ sym c.deref-2.ensures.value) (c.self.invariant.within c.args.copy)

pub load_all-requires-clause-kept : goal.load_all-requires-clause-kept
load_all-requires-clause-kept g c =
    clean-as c.self.inside.words.items c.deref.result.now c.self.inside.cells.items c.deref_mut.result.now c.self.inside.clean.items c.deref_mut-2.result.now
    (sym c.deref.ensures.value) (sym c.deref_mut.ensures.value) (sym c.deref_mut-2.ensures.value) c.self.invariant.known

pub invariant_of-self : goal.invariant_of-self
invariant_of-self g c =
    let cells = with_items_is c.self.inside.cells c.load_all.new.cells (c.load_all.auto.cells ∙ c.deref_mut.ensures.len) in
    let clean = with_items_is c.self.inside.clean c.load_all.new.clean (c.load_all.auto.clean ∙ c.deref_mut-2.ensures.len) in
    let a = ap (λ (l : List ℕ). length l) cells in
    let b = ap (λ (l : List (Option ℕ)). length l) clean in
    let d = ap (λ (l : List ℕ). length l) c.deref_mut.ensures.value in
    let e = ap (λ (l : List (Option ℕ)). length l) c.deref_mut-2.ensures.value in
    record {
      long = omega (arith, a, b, d, e, c.load_all.auto.cells, c.load_all.auto.clean, c.self.invariant.long);
      some = c.self.invariant.some;
      within = c.self.invariant.within;
      known = clean-as c.deref.result.now c.self.inside.words.items c.load_all.new.cells (with_items c.self.inside.cells c.load_all.new.cells).items
          c.load_all.new.clean (with_items c.self.inside.clean c.load_all.new.clean).items c.deref.ensures.value (sym cells) (sym clean)
          c.load_all.ensures.kept;
    }

pub returns-clause-loaded : goal.returns-clause-loaded
returns-clause-loaded g c i less =
    let row = row-is c.self.inside.saved.items c.args.copy c.index.result.now
    (row-less c.self.inside.saved.items c.args.self.now.saved c.args.copy (ap (λ (v : Copies). v.saved) c.self.view_is) c.requires) c.index.ensures in
    let cells = with_items_is c.self.inside.cells c.load_all.new.cells (c.load_all.auto.cells ∙ c.deref_mut.ensures.len) in
    let a = ap (λ (l : List ℕ). length l) cells in
    ap (λ (l : List ℕ). get_or l i 0) cells ∙ c.load_all.ensures.loaded i (omega arith) (omega (arith, a, less, c.load_all.auto.cells))
    ∙ ap (λ (l : List ℕ). number_in l c.deref-2.result.now i) c.deref.ensures.value
    ∙ ap (λ (l : List ℕ). number_in c.self.inside.words.items l i) (c.deref-2.ensures.value ∙ sym row)
    ∙ ap (λ (v : Copies). saved_at v c.args.copy i) c.self.view_is

pub index-requires : goal.index-requires
index-requires g c =
    let less = row-less c.self.inside.saved.items c.args.self.now.saved c.args.copy (ap (λ (v : Copies). v.saved) c.self.view_is) c.requires in
    omega (arith, less, c.self.inside.saved.ok.0)

pub load_all-requires-clause-long : goal.load_all-requires-clause-long
load_all-requires-clause-long g c =
    let d = ap (λ (l : List ℕ). length l) c.deref_mut.ensures.value in
    let e = ap (λ (l : List (Option ℕ)). length l) c.deref_mut-2.ensures.value in
    omega (arith, d, e, c.self.invariant.long)

pub returns-clause-words : goal.returns-clause-words
returns-clause-words g c = ap (λ (v : Copies). v.words) c.self.view_is

pub returns-clause-saved : goal.returns-clause-saved
returns-clause-saved g c = ap (λ (v : Copies). v.saved) c.self.view_is

pub returns-clause-long : goal.returns-clause-long
returns-clause-long g c =
    let cells = with_items_is c.self.inside.cells c.load_all.new.cells (c.load_all.auto.cells ∙ c.deref_mut.ensures.len) in
    ap (λ (l : List ℕ). length l) cells ∙ c.load_all.auto.cells ∙ ap (λ (l : List ℕ). length l) c.deref_mut.ensures.value
    ∙ ap (λ (v : Copies). length v.cells) c.self.view_is
