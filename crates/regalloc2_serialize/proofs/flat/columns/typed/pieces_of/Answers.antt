use Rattle.std.proofs.Common.{arith, ◌≡◌, ◌≤◌, ◌+◌, ◌∷◌, ap, sym, subst, length}
use Rattle.std.specs.Prelude.{slice_index}
use Rattle.std.proofs.lemmas.List.{get_or_default}
use Rattle.regalloc2_serialize.proofs.ColumnsLemmas.Made.{bounds-within}
use Rattle.regalloc2_serialize.proofs.flat.columns.typed.pieces_of.Goals as goal

pub invariant_of-result : goal.invariant_of-result
invariant_of-result g c =
    let bounds = c.in_ok-bounds.bounds in
    let e : bounds.items ≡ 0 ∷ c.args.ends.now = c.in_ok-bounds.ensures in
    record {
      rises = λ k less. subst (λ bs. slice_index bs k ≤ slice_index bs (k + 1)) (sym e) (c.requires.rises k (omega (arith, less, ap length e, bounds.ok.0)));
      within = λ k d less.
          let inside : slice_index bounds.items k ≤ c.args.items.len = subst (λ bs. slice_index bs k ≤ c.args.items.len) (sym e)
          (bounds-within c.args.ends.now c.args.items.len c.requires k (omega (arith, less, ap length e))) in
          omega (arith, inside, get_or_default bounds.items k d 0 less);
    }
