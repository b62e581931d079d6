use Rattle.std.proofs.Common.{ℕ, ◌≡◌, true, take, take-take, arith, subst}
use Rattle.std.specs.Option.{option_map}
use Rattle.regalloc2_checker_sets.specs.Homes.{MorePlaces, has_more, set_in}
use Rattle.regalloc2_checker_sets.proofs.MoreLaws.{all-saved}
use Rattle.regalloc2_checker_sets.proofs.more_places.More.save_added.Goals as goal

pub returns-clause-kept : goal.returns-clause-kept
unfolding has_more
returns-clause-kept g c =
    let old : MorePlaces = record {
      numbers = take c.self.inside.len c.self.inside.numbers;
      saved = c.self.inside.saved;
      others = set_in (option_map (λ b. b.value) c.self.inside.others);
      added = c.self.inside.added.items;
    } in
    subst (λ (m : MorePlaces). (i : ℕ) → has_more m i ≡ true → has_more old i ≡ true) c.self.view_is (λ i is. is)

pub returns-clause-saved : goal.returns-clause-saved
returns-clause-saved g c =
    let old : MorePlaces = record {
      numbers = take c.self.inside.len c.self.inside.numbers;
      saved = c.self.inside.saved;
      others = set_in (option_map (λ b. b.value) c.self.inside.others);
      added = c.self.inside.added.items;
    } in
    all-saved (record old { saved = c.self.inside.len; added = c.clear.new.self.items })
    (take-take c.self.inside.len c.self.inside.len c.self.inside.numbers (omega arith)) c.clear.ensures.items
