use Rattle.std.proofs.Common.{◌≡◌, ◌∙◌, List, ap, length, rules, subst, sym}
use Rattle.std.specs.List.Sorted.{IsNonDecreasingBy}
use Rattle.std.proofs.lemmas.List.Sorted.{IsNonDecreasingBy-from_sort_by_key, length_permutation}
use Rattle.smallvec.proofs.SmallVecLemmas.{items-with_items}
use Rattle.regalloc2_names.specs.Place.{Place}
use Rattle.regalloc2_names.specs.PlaceBits.{bits_of_place}
use Rattle.regalloc2_parts.proofs.moves.order.sort_moves.Goals as goal

pub returns-clause-sorted : goal.returns-clause-sorted
returns-clause-sorted g c =
    let new = c.sort_unstable_by_key.new.self in
    let long : length new ≡ length c.args.moves.now.items =
    length_permutation c.deref_mut.result.now new c.sort_unstable_by_key.ensures.permutation ∙ ap (λ l. length l) c.deref_mut.ensures.value in
    subst (λ (xs : List (Place × Place × g.row.T.Denot)). IsNonDecreasingBy (λ (m : Place × Place × g.row.T.Denot). bits_of_place m.1) xs)
    (sym (items-with_items c.args.moves.now new long))
    (IsNonDecreasingBy-from_sort_by_key (λ (m : Place × Place × g.row.T.Denot). bits_of_place m.1) new c.sort_unstable_by_key.ensures.sorted
    (λ a r q k. search rules))
