use Rattle.std.proofs.Common.{◌≡◌, ◌∷◌, [], ◌∙◌, List, ap, arith, get_or, length, refl, sym}
use Rattle.std.proofs.lemmas.List.{get_or_default}
use Rattle.regalloc2_names.specs.Place.{Place}
use Rattle.regalloc2_parts.proofs.moves.ParallelMoves.only.Goals as goal

-- a list of one item
only_item : {X : Type 0} (xs : List X) (d : X) → length xs ≡ 1 → xs ≡ get_or xs 0 d ∷ []
only_item [] d e = absurd (omega (arith, e))
only_item (x ∷ []) d e = refl
only_item (x ∷ y ∷ ys) d e = absurd (omega (arith, e))

pub returns-then-moves-ne1-clause-none : goal.returns-then-moves-ne1-clause-none
returns-then-moves-ne1-clause-none g c = λ one. omega (arith, one, c.if-moves-ne1.true, ap length c.self.view_is, ap length c.as_slice-moves.ensures)

pub returns-then-moves-ne1-clause-one : goal.returns-then-moves-ne1-clause-one
returns-then-moves-ne1-clause-one g c = tt

pub returns-clause-none : goal.returns-clause-none
returns-clause-none g c = tt

pub returns-clause-one : goal.returns-clause-one
returns-clause-one g c =
    let ms = c.as_slice-moves.result.now in
    let m = c.index-moves-0.result in
    let one = get_or ms 0 m in (
      one.2,
      sym (c.as_slice-moves.ensures ∙ c.self.view_is)
          ∙ only_item ms m c.if-moves-ne1.false
          ∙ ap (λ (n : Place × Place × g.row.T.Denot). (one.0, n.1, one.2) ∷ []) (get_or_default ms 0 m c.index-moves-0-2.result (omega arith)),
    )
