use Rattle.std.proofs.Common.{take, subst}
use Rattle.std.specs.Option.{option_map}
use Rattle.regalloc2_function.specs.Numbers.{NumberSet}
use Rattle.regalloc2_checker_sets.specs.Homes.{MorePlaces, set_in, IsMore}
use Rattle.regalloc2_checker_sets.proofs.MoreLaws.{others-more, others-have}
use Rattle.regalloc2_checker_sets.proofs.more_places.More.add_all.Goals as goal

pub returns-in_err-add_others-clause-more : goal.returns-in_err-add_others-clause-more
returns-in_err-add_others-clause-more g c =
    let old : MorePlaces = record {
      numbers = take c.self.inside.len c.self.inside.numbers;
      saved = c.self.inside.saved;
      others = set_in (option_map (λ b. b.value) c.self.inside.others);
      added = c.self.inside.added.items;
    } in
    let others : NumberSet = set_in (option_map (λ b. b.value) c.add_others.new.others) in
    subst (λ (m : MorePlaces). IsMore m (record old { others = others })) c.self.view_is (others-more old others c.add_others.ensures.kept)

pub returns-in-Some-clause-more : goal.returns-in-Some-clause-more
returns-in-Some-clause-more g c =
    let old : MorePlaces = record {
      numbers = take c.self.inside.len c.self.inside.numbers;
      saved = c.self.inside.saved;
      others = set_in (option_map (λ b. b.value) c.self.inside.others);
      added = c.self.inside.added.items;
    } in
    let others : NumberSet = set_in (option_map (λ b. b.value) c.add_others.new.others) in
    subst (λ (m : MorePlaces). IsMore m (record old { others = others })) c.self.view_is (others-more old others c.add_others.ensures.kept)

pub returns-in_default-clause-more : goal.returns-in_default-clause-more
returns-in_default-clause-more g c =
    let old : MorePlaces = record {
      numbers = take c.self.inside.len c.self.inside.numbers;
      saved = c.self.inside.saved;
      others = set_in (option_map (λ b. b.value) c.self.inside.others);
      added = c.self.inside.added.items;
    } in
    let others : NumberSet = set_in (option_map (λ b. b.value) c.add_others.new.others) in
    subst (λ (m : MorePlaces). IsMore m (record old { others = others })) c.self.view_is (others-more old others c.add_others.ensures.kept)

pub returns-in-Some-clause-added : goal.returns-in-Some-clause-added
returns-in-Some-clause-added g c i is =
    let old : MorePlaces = record {
      numbers = take c.self.inside.len c.self.inside.numbers;
      saved = c.self.inside.saved;
      others = set_in (option_map (λ b. b.value) c.self.inside.others);
      added = c.self.inside.added.items;
    } in
    let others : NumberSet = set_in (option_map (λ b. b.value) c.add_others.new.others) in
    others-have (record old { others = others }) i (c.in_ok-add_others.ensures.added i is)
