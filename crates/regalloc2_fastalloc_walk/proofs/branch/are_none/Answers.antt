use Rattle.std.proofs.Common.{◌≡◌, ◌∷◌, [], List, length, map, true, refl, sym, ap, ◌∙◌}
use Rattle.std.proofs.lemmas.Bool.{eqb-true}
use Rattle.std.specs.Bool.{◌==◌}
use Rattle.regalloc2_names.specs.Place.{NoPlace}
use Rattle.regalloc2_parts.specs.Resolved.{moves_listed, with_place, filled}
use Rattle.regalloc2_fastalloc_walk.proofs.branch.are_none.Goals as goal

-- what has no element, is empty
empty : {X : Type 0} (l : List X) → length l ≡ 0 → l ≡ []
empty [] e = refl
empty (x ∷ l) e = absurd cc

none : {X : Type 0} (l : List X) → (length l == 0) ≡ true → l ≡ []
none l e = empty l (eqb-true (length l) 0 e)

pub returns-in-NoScratch : goal.returns-in-NoScratch
returns-in-NoScratch g c = record {
  same = λ t. ap (with_place NoPlace) c.in-NoScratch.is ∙ sym (ap moves_listed c.in-NoScratch.is);
  none = (
    λ t. ap moves_listed c.in-NoScratch.is ∙ none c.in-NoScratch.list.items (sym c.is_empty.ensures ∙ t),
    λ e. c.is_empty.ensures ∙ ap (λ l. length l == 0) (sym (ap moves_listed c.in-NoScratch.is) ∙ e),
  );
}

pub returns-in-Scratch : goal.returns-in-Scratch
returns-in-Scratch g c = record {
  same = λ t. let e = none c.in-Scratch.list.items (sym c.is_empty-in-Scratch.ensures ∙ t) in
      ap (with_place NoPlace) c.in-Scratch.is ∙ ap (λ l. map (filled NoPlace) l) e ∙ sym e ∙ sym (ap moves_listed c.in-Scratch.is);
  none = (
    λ t. ap moves_listed c.in-Scratch.is ∙ none c.in-Scratch.list.items (sym c.is_empty-in-Scratch.ensures ∙ t),
    λ e. c.is_empty-in-Scratch.ensures ∙ ap (λ l. length l == 0) (sym (ap moves_listed c.in-Scratch.is) ∙ e),
  );
}
