use Rattle.std.proofs.Common.{rules, ◌==◌, List, not, refl, ap, ◌∙◌, subst}
use Rattle.std.specs.List.{filter}
use Rattle.std.proofs.lemmas.Fn.{dedup_same}
use Rattle.std.proofs.lemmas.List.Sorted.{Contains-permutation, IsPermutation-map, IsPermutation-sym}
use Rattle.regalloc2_names.specs.Place.{Place}
use Rattle.regalloc2_names.specs.PlaceBits.{bits_of_place}
use Rattle.regalloc2_parts.specs.AtOnce.{ends, ends_of}
use Rattle.regalloc2_parts.specs.Giving.{IsTidied}
use Rattle.regalloc2_parts.proofs.Tidying.{tidied_permuted, retained, tidies_ends, tidied_given}
use Rattle.regalloc2_parts.proofs.moves.order.tidy.Goals as goal

pub returns-then-is_tidy-clause-tidied : goal.returns-then-is_tidy-clause-tidied
returns-then-is_tidy-clause-tidied g c =
    let sorted = c.sort_moves.new.moves.items in
    let is : IsTidied (ends_of sorted) (ends_of sorted) = subst (λ (xs : List (Place × Place × g.row.T.Denot)). IsTidied (ends_of xs) (ends_of xs))
    c.as_slice.ensures (c.if-is_tidy.ensures refl) in
    tidied_permuted (ends_of c.args.moves.now.items) (ends_of sorted)
    (IsPermutation-map ends c.args.moves.now.items sorted c.sort_moves.ensures.permutation) is

pub returns-then-is_tidy-clause-given : goal.returns-then-is_tidy-clause-given
returns-then-is_tidy-clause-given g c m h =
    Contains-permutation c.sort_moves.new.moves.items c.args.moves.now.items m
    (IsPermutation-sym c.args.moves.now.items c.sort_moves.new.moves.items c.sort_moves.ensures.permutation) h

pub returns-clause-tidied : goal.returns-clause-tidied
returns-clause-tidied g c =
    let once = dedup_same _ (λ (p q : Place × Place × g.row.T.Denot). bits_of_place p.1 == bits_of_place q.1) _ (λ x y b f' x' y' k. search rules) _ _
    c.dedup_by_key.ensures.filtered in
    let kept = retained _ (λ (m : Place × Place × g.row.T.Denot). not (bits_of_place m.0 == bits_of_place m.1)) _ (λ x b f' y k. search rules) _ _
    c.retain.ensures.filtered in
    tidies_ends c.args.moves.now.items c.sort_moves.new.moves.items c.retain.new.self.items c.requires.proper c.requires.fair c.sort_moves.ensures.permutation
    c.sort_moves.ensures.sorted
    (kept ∙ ap (filter (λ (m : Place × Place × g.row.T.Denot). not (bits_of_place m.0 == bits_of_place m.1))) once)

pub returns-clause-given : goal.returns-clause-given
returns-clause-given g c m h =
    let once = dedup_same _ (λ (p q : Place × Place × g.row.T.Denot). bits_of_place p.1 == bits_of_place q.1) _ (λ x y b f' x' y' k. search rules) _ _
    c.dedup_by_key.ensures.filtered in
    let kept = retained _ (λ (m : Place × Place × g.row.T.Denot). not (bits_of_place m.0 == bits_of_place m.1)) _ (λ x b f' y k. search rules) _ _
    c.retain.ensures.filtered in
    tidied_given c.args.moves.now.items c.sort_moves.new.moves.items c.retain.new.self.items m c.sort_moves.ensures.permutation
    (kept ∙ ap (filter (λ (m : Place × Place × g.row.T.Denot). not (bits_of_place m.0 == bits_of_place m.1))) once) h
