use Rattle.std.proofs.Common.{ℕ, ◌≡◌, ◌+◌, false, List, take, arith, ap, sym, ◌∙◌, subst}
use Rattle.std.specs.Option.{option_map}
use Rattle.std.specs.Prelude.{slice_set}
use Rattle.std.proofs.lemmas.List.{take_more_set}
use Rattle.regalloc2_function.specs.Numbers.{NumberSet}
use Rattle.regalloc2_checker_sets.specs.Homes.{MorePlaces, has_more, set_in, IsMore}
use Rattle.regalloc2_checker_sets.proofs.MoreLaws.{others-more, others-added, others-have, numbers-more, numbers-have, set-kept, set-added}
use Rattle.regalloc2_checker_sets.proofs.Results.{on_ok_as}
use Rattle.regalloc2_checker_sets.proofs.more_places.More.add.Goals as goal

pub returns-in_default-clause-more : goal.returns-in_default-clause-more
returns-in_default-clause-more g c =
    let old : MorePlaces = record {
      numbers = take c.self.inside.len c.self.inside.numbers;
      saved = c.self.inside.saved;
      others = set_in (option_map (λ b. b.value) c.self.inside.others);
      added = c.self.inside.added.items;
    } in
    let others : NumberSet = set_in (option_map (λ b. b.value) c.add_other.new.others) in
    subst (λ (m : MorePlaces). IsMore m (record old { others = others })) c.self.view_is
    (others-more old others (set-kept old.others others c.args.place c.add_other.result c.add_other.ensures.ok c.add_other.ensures.err))

pub returns-in_default-clause-added : goal.returns-in_default-clause-added
returns-in_default-clause-added g c =
    let old : MorePlaces = record {
      numbers = take c.self.inside.len c.self.inside.numbers;
      saved = c.self.inside.saved;
      others = set_in (option_map (λ b. b.value) c.self.inside.others);
      added = c.self.inside.added.items;
    } in
    let others : NumberSet = set_in (option_map (λ b. b.value) c.add_other.new.others) in
    on_ok_as _ _ c.add_other.result (λ ok. others-have (record old { others = others }) c.args.place (set-added old.others others c.args.place ok))
    c.add_other.ensures.ok

pub returns-then-self-lt6-clause-more : goal.returns-then-self-lt6-clause-more
returns-then-self-lt6-clause-more g c =
    let old : MorePlaces = record {
      numbers = take c.self.inside.len c.self.inside.numbers;
      saved = c.self.inside.saved;
      others = set_in (option_map (λ b. b.value) c.self.inside.others);
      added = c.self.inside.added.items;
    } in
    let numbers : List ℕ = take (c.self.inside.len + 1) (slice_set c.self.inside.numbers c.self.inside.len c.in-Ok.number) in
    subst (λ (m : MorePlaces). IsMore m (record old { numbers = numbers })) c.self.view_is
    (numbers-more old numbers c.in-Ok.number
    (take_more_set c.self.inside.numbers c.self.inside.len c.in-Ok.number (omega (arith, c.if-self-lt6.true, c.self.told))))

pub returns-then-self-lt6-clause-added : goal.returns-then-self-lt6-clause-added
returns-then-self-lt6-clause-added g c =
    let old : MorePlaces = record {
      numbers = take c.self.inside.len c.self.inside.numbers;
      saved = c.self.inside.saved;
      others = set_in (option_map (λ b. b.value) c.self.inside.others);
      added = c.self.inside.added.items;
    } in
    let numbers : List ℕ = take (c.self.inside.len + 1) (slice_set c.self.inside.numbers c.self.inside.len c.in-Ok.number) in
    ap (has_more (record old { numbers = numbers })) (sym c.in-Ok.ensures.1)
    ∙ numbers-have old numbers c.in-Ok.number
    (take_more_set c.self.inside.numbers c.self.inside.len c.in-Ok.number (omega (arith, c.if-self-lt6.true, c.self.told)))

pub returns-in_err-add_other-clause-more : goal.returns-in_err-add_other-clause-more
returns-in_err-add_other-clause-more g c =
    let old : MorePlaces = record {
      numbers = take c.self.inside.len c.self.inside.numbers;
      saved = c.self.inside.saved;
      others = set_in (option_map (λ b. b.value) c.self.inside.others);
      added = c.self.inside.added.items;
    } in
    let others : NumberSet = set_in (option_map (λ b. b.value) c.add_other-2.new.others) in
    let absent : has_more old c.in-Ok.number ≡ false =
    ap (λ (m : MorePlaces). has_more m c.in-Ok.number) c.self.view_is ∙ ap (has_more c.args.self.now) c.in-Ok.ensures.1 ∙ c.requires.absent in
    subst (λ (m : MorePlaces). IsMore m (record old { others = others; added = c.push.new.self.items })) c.self.view_is
    (others-added old others c.push.new.self.items c.in-Ok.number c.in_ok-push.ensures.items absent
    (set-kept old.others others c.args.place c.add_other-2.result c.add_other-2.ensures.ok c.add_other-2.ensures.err))

pub returns-clause-more : goal.returns-clause-more
returns-clause-more g c =
    let old : MorePlaces = record {
      numbers = take c.self.inside.len c.self.inside.numbers;
      saved = c.self.inside.saved;
      others = set_in (option_map (λ b. b.value) c.self.inside.others);
      added = c.self.inside.added.items;
    } in
    let others : NumberSet = set_in (option_map (λ b. b.value) c.add_other-2.new.others) in
    let absent : has_more old c.in-Ok.number ≡ false =
    ap (λ (m : MorePlaces). has_more m c.in-Ok.number) c.self.view_is ∙ ap (has_more c.args.self.now) c.in-Ok.ensures.1 ∙ c.requires.absent in
    subst (λ (m : MorePlaces). IsMore m (record old { others = others; added = c.push.new.self.items })) c.self.view_is
    (others-added old others c.push.new.self.items c.in-Ok.number c.in_ok-push.ensures.items absent
    (set-kept old.others others c.args.place c.add_other-2.result c.add_other-2.ensures.ok c.add_other-2.ensures.err))

pub returns-clause-added : goal.returns-clause-added
returns-clause-added g c =
    let old : MorePlaces = record {
      numbers = take c.self.inside.len c.self.inside.numbers;
      saved = c.self.inside.saved;
      others = set_in (option_map (λ b. b.value) c.self.inside.others);
      added = c.self.inside.added.items;
    } in
    let others : NumberSet = set_in (option_map (λ b. b.value) c.add_other-2.new.others) in
    others-have (record old { others = others; added = c.push.new.self.items }) c.args.place
    (set-added old.others others c.args.place c.in_ok-add_other.ensures.ok)
