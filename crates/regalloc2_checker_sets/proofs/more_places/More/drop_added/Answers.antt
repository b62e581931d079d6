use Rattle.std.proofs.Common.{ℕ, ◌≡◌, true, List, take, take-take, arith, ap, sym, ◌∙◌, subst}
use Rattle.std.specs.Option.{option_map}
use Rattle.regalloc2_function.specs.Numbers.{NumberSet}
use Rattle.regalloc2_checker_sets.specs.Homes.{MorePlaces, is_one_of, has_saved_more, set_in}
use Rattle.regalloc2_checker_sets.proofs.MoreLaws.{all-saved, dropped-saved, first-left}
use Rattle.regalloc2_checker_sets.proofs.more_places.More.drop_added.Goals as goal

pub returns-clause-kept : goal.returns-clause-kept
returns-clause-kept g c =
    let old : MorePlaces = record {
      numbers = take c.self.inside.len c.self.inside.numbers;
      saved = c.self.inside.saved;
      others = set_in (option_map (λ b. b.value) c.self.inside.others);
      added = c.self.inside.added.items;
    } in
    let numbers : List ℕ = take c.min-self-inside.result c.self.inside.numbers in
    let others : NumberSet = set_in (option_map (λ b. b.value) c.remove_all.new.others) in
    let left : numbers ≡ take c.self.inside.saved old.numbers =
    first-left c.self.inside.numbers c.self.inside.len c.self.inside.saved c.min-self-inside.result c.min-self-inside.ensures in
    subst (λ (m : MorePlaces). (i : ℕ) → has_saved_more m i ≡ true
    → has_saved_more (record old { numbers = numbers; others = others; added = c.clear.new.self.items }) i ≡ true) c.self.view_is
    (subst (λ (added : List ℕ). (i : ℕ) → has_saved_more old i ≡ true
    → has_saved_more (record old { numbers = numbers; others = others; added = added }) i ≡ true) (sym {A = List ℕ} c.clear.ensures.items)
    (dropped-saved old numbers others left
    (λ i not is. c.remove_all.ensures i (ap (λ (ns : List ℕ). is_one_of ns i) c.deref.ensures.value ∙ not) is)))

pub returns-clause-saved : goal.returns-clause-saved
returns-clause-saved g c =
    let old : MorePlaces = record {
      numbers = take c.self.inside.len c.self.inside.numbers;
      saved = c.self.inside.saved;
      others = set_in (option_map (λ b. b.value) c.self.inside.others);
      added = c.self.inside.added.items;
    } in
    let numbers : List ℕ = take c.min-self-inside.result c.self.inside.numbers in
    let others : NumberSet = set_in (option_map (λ b. b.value) c.remove_all.new.others) in
    let left : numbers ≡ take c.self.inside.saved old.numbers =
    first-left c.self.inside.numbers c.self.inside.len c.self.inside.saved c.min-self-inside.result c.min-self-inside.ensures in
    all-saved (record old { numbers = numbers; others = others; added = c.clear.new.self.items })
    (ap (take c.self.inside.saved) left ∙ take-take c.self.inside.saved c.self.inside.saved old.numbers (omega arith) ∙ sym left) c.clear.ensures.items
