use Rattle.std.proofs.Common.{ℕ, ◌≤◌, List, [], length, get_or, map, arith, ap, sym, ◌∙◌, refl}
use Rattle.std.specs.Prelude.{Option, slice_set}
use Rattle.std.specs.Vec.{with_items}
use Rattle.std.proofs.Common.{inl, inr}
use Rattle.std.proofs.lemmas.Bool.{cases_eq}
use Rattle.std.proofs.lemmas.List.{with_items_is, length-map, length-set}
use Rattle.regalloc2_checker_sets.specs.SavedCopies.{Copies, saved_at, number_in_cell, number_in}
use Rattle.regalloc2_checker_sets.proofs.Rows.{row-is, row-less, row-set_same, row-set_other, within-as}
use Rattle.regalloc2_checker_sets.proofs.Rows.{clean-as, within-more, number-kept, bases-within, bases-same}
use Rattle.regalloc2_checker_sets.proofs.Results.{on_err_always}
use Rattle.regalloc2_checker_sets.proofs.versions.Versions.save.Goals as goal

pub save_all-requires-clause-within : goal.save_all-requires-clause-within
save_all-requires-clause-within g c =
    let row = row-is c.self.inside.saved.items c.args.copy c.index.result.now
    (row-less c.self.inside.saved.items c.args.self.now.saved c.args.copy (ap (λ (v : Copies). v.saved) c.self.view_is) c.requires) c.index.ensures in
    within-as c.self.inside.words.items c.self.inside.words.items (get_or (map (λ b. b.items) c.self.inside.saved.items) c.args.copy []) c.deref.result.now
    refl (row ∙ sym c.deref.ensures.value) (c.self.invariant.within c.args.copy)

pub save_all-requires-clause-kept : goal.save_all-requires-clause-kept
save_all-requires-clause-kept g c =
    clean-as c.self.inside.words.items c.self.inside.words.items c.self.inside.cells.items c.deref-2.result.now c.self.inside.clean.items c.deref_mut.result.now
    refl (sym c.deref-2.ensures.value) (sym c.deref_mut.ensures.value) c.self.invariant.known

pub invariant_of-self : goal.invariant_of-self
invariant_of-self g c =
    let clean = with_items_is c.self.inside.clean c.save_all.new.clean (c.save_all.auto.clean ∙ c.deref_mut.ensures.len) in
    let more = c.in_err-bases.ensures.words in
    let longer = more.longer in
    let some = c.self.invariant.some in
    let b = ap (λ (l : List (Option ℕ)). length l) clean in
    let e = ap (λ (l : List (Option ℕ)). length l) c.deref_mut.ensures.value in
    record {
      long = omega (arith, b, e, c.save_all.auto.clean, c.self.invariant.long);
      some = omega arith;
      within = λ k. within-more _ _ _ more (c.self.invariant.within k);
      known = clean-as c.save_all.new.words.items c.save_all.new.words.items c.deref-2.result.now c.self.inside.cells.items
          c.save_all.new.clean (with_items c.self.inside.clean c.save_all.new.clean).items refl c.deref-2.ensures.value (sym clean)
          c.in_err-bases.ensures.kept;
    }

pub invariant_of-self-2 : goal.invariant_of-self-2
invariant_of-self-2 g c =
    let clean = with_items_is c.self.inside.clean c.save_all.new.clean (c.save_all.auto.clean ∙ c.deref_mut.ensures.len) in
    let more = c.in_ok-bases.ensures.words in
    let longer = more.longer in
    let some = c.self.invariant.some in
    let there : 64 ≤ length c.save_all.new.words.items = omega arith in
    let b = ap (λ (l : List (Option ℕ)). length l) clean in
    let e = ap (λ (l : List (Option ℕ)). length l) c.deref_mut.ensures.value in
    record {
      long = omega (arith, b, e, c.save_all.auto.clean, c.self.invariant.long);
      some = there;
      within = λ k. elim (cases_eq k c.args.copy) [
        | inl e ↦
            let row = row-set_same c.self.inside.saved.items c.args.copy c.in_ok-bases.bases
            (row-less c.self.inside.saved.items c.args.self.now.saved c.args.copy (ap (λ (v : Copies). v.saved) c.self.view_is) c.requires) in
            within-as c.save_all.new.words.items c.save_all.new.words.items c.in_ok-bases.bases.items _ refl
            (sym (ap (λ n. get_or (map (λ b. b.items) (slice_set c.self.inside.saved.items c.args.copy c.in_ok-bases.bases)) n []) e ∙ row))
            (bases-within c.save_all.new.words.items c.deref-2.result.now c.in_ok-bases.bases.items (length c.deref_mut.result.now) there
            c.in_ok-bases.ensures.saved)
        | inr n ↦ within-as c.save_all.new.words.items c.save_all.new.words.items _ _ refl
            (sym (row-set_other c.self.inside.saved.items c.args.copy k c.in_ok-bases.bases n))
            (within-more _ _ _ more (c.self.invariant.within k))
      ];
      known = clean-as c.save_all.new.words.items c.save_all.new.words.items c.deref-2.result.now c.self.inside.cells.items
          c.save_all.new.clean (with_items c.self.inside.clean c.save_all.new.clean).items refl c.deref-2.ensures.value (sym clean)
          c.in_ok-bases.ensures.kept;
    }

pub returns-clause-others : goal.returns-clause-others
returns-clause-others g c k i n less =
    ap (λ (l : List ℕ). number_in c.save_all.new.words.items l i) (row-set_other c.self.inside.saved.items c.args.copy k c.in_ok-bases.bases n)
    ∙ number-kept c.self.inside.words.items c.save_all.new.words.items _ i c.in_ok-bases.ensures.words (c.self.invariant.within k)
    ∙ ap (λ (v : Copies). saved_at v k i) c.self.view_is

pub returns-clause-saved : goal.returns-clause-saved
returns-clause-saved g c i less =
    let row = row-set_same c.self.inside.saved.items c.args.copy c.in_ok-bases.bases
    (row-less c.self.inside.saved.items c.args.self.now.saved c.args.copy (ap (λ (v : Copies). v.saved) c.self.view_is) c.requires) in
    let d = ap (λ (l : List ℕ). length l) c.deref-2.ensures.value in
    let e = ap (λ (l : List (Option ℕ)). length l) c.deref_mut.ensures.value in
    let v = ap (λ (x : Copies). length x.cells) c.self.view_is in
    ap (λ (l : List ℕ). number_in c.save_all.new.words.items l i) row
    ∙ bases-same c.save_all.new.words.items c.deref-2.result.now c.in_ok-bases.bases.items (length c.deref_mut.result.now) i
    (omega (arith, d, e, c.self.invariant.long)) c.in_ok-bases.ensures.saved (omega (arith, d, v, less))
    ∙ ap (λ (l : List ℕ). get_or l i 0) c.deref-2.ensures.value ∙ ap (λ (x : Copies). number_in_cell x i) c.self.view_is

pub save_all-requires-clause-long : goal.save_all-requires-clause-long
save_all-requires-clause-long g c =
    let d = ap (λ (l : List ℕ). length l) c.deref-2.ensures.value in
    let e = ap (λ (l : List (Option ℕ)). length l) c.deref_mut.ensures.value in
    omega (arith, d, e, c.self.invariant.long)

pub returns-in_err-bases-clause-others : goal.returns-in_err-bases-clause-others
returns-in_err-bases-clause-others g c k i n less =
    number-kept c.self.inside.words.items c.save_all.new.words.items _ i c.in_err-bases.ensures.words (c.self.invariant.within k)
    ∙ ap (λ (v : Copies). saved_at v k i) c.self.view_is

pub returns-in_err-bases-clause-err : goal.returns-in_err-bases-clause-err
returns-in_err-bases-clause-err g c =
    on_err_always _ c.from_residual.result
    (λ i less. number-kept c.self.inside.words.items c.save_all.new.words.items _ i c.in_err-bases.ensures.words (c.self.invariant.within c.args.copy)
    ∙ ap (λ (v : Copies). saved_at v c.args.copy i) c.self.view_is)

pub index-requires : goal.index-requires
index-requires g c =
    let less = row-less c.self.inside.saved.items c.args.self.now.saved c.args.copy (ap (λ (v : Copies). v.saved) c.self.view_is) c.requires in
    omega (arith, less, c.self.inside.saved.ok.0)

pub index_mut-requires : goal.index_mut-requires
index_mut-requires g c =
    let less = row-less c.self.inside.saved.items c.args.self.now.saved c.args.copy (ap (λ (v : Copies). v.saved) c.self.view_is) c.requires in
    omega (arith, less, c.self.inside.saved.ok.0)

pub returns-in_err-bases-clause-cells : goal.returns-in_err-bases-clause-cells
returns-in_err-bases-clause-cells g c = ap (λ (v : Copies). v.cells) c.self.view_is

pub returns-in_err-bases-clause-count : goal.returns-in_err-bases-clause-count
returns-in_err-bases-clause-count g c = ap (λ (v : Copies). length v.saved) c.self.view_is

pub returns-clause-cells : goal.returns-clause-cells
returns-clause-cells g c = ap (λ (v : Copies). v.cells) c.self.view_is

pub returns-clause-count : goal.returns-clause-count
returns-clause-count g c =
    length-map (slice_set c.self.inside.saved.items c.args.copy c.in_ok-bases.bases) _
    ∙ length-set c.self.inside.saved.items c.args.copy c.in_ok-bases.bases
    ∙ sym (length-map c.self.inside.saved.items _) ∙ ap (λ (v : Copies). length v.saved) c.self.view_is

pub returns-clause-err : goal.returns-clause-err
returns-clause-err g c = tt
