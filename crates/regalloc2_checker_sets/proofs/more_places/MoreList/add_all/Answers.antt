use Rattle.std.proofs.Common.{◌<◌, List, length, refl, sym, ap, ◌∙◌, subst}
use Rattle.std.specs.Prelude.{slice_set}
use Rattle.std.proofs.lemmas.List.{get_or-set_same}
use Rattle.regalloc2_checker_sets.specs.Homes.{MorePlaces, no_more, has_more, IsMore, AreMorePlaces}
use Rattle.regalloc2_checker_sets.proofs.Bits.{read-is}
use Rattle.regalloc2_checker_sets.proofs.MoreLists.{places-set, grown-set}
use Rattle.regalloc2_checker_sets.proofs.Results.{on_ok_as}
use Rattle.regalloc2_checker_sets.proofs.more_places.MoreList.add_all.Goals as goal

pub invariant_of-self-2 : goal.invariant_of-self-2
invariant_of-self-2 g c =
    let items = c.self.inside.items.items in
    let less : c.args.index < length items = subst (λ (ms : List MorePlaces). c.args.index < length ms) (sym c.self.view_is) c.requires in
    grown-set items c.self.inside.grown.items c.push.new.self.items c.args.index c.add_all.new.self c.in_ok-push.ensures.items less c.self.invariant

pub returns-clause-more : goal.returns-clause-more
returns-clause-more g c =
    let items = c.self.inside.items.items in
    let less : c.args.index < length items = subst (λ (ms : List MorePlaces). c.args.index < length ms) (sym c.self.view_is) c.requires in
    let had = read-is items items c.args.index c.index_mut-more.result.now no_more refl less c.index_mut-more.ensures.value in
    subst (λ (ms : List MorePlaces). AreMorePlaces ms (slice_set items c.args.index c.add_all.new.self)) c.self.view_is
    (places-set items c.args.index c.add_all.new.self less (subst (λ (m : MorePlaces). IsMore m c.add_all.new.self) had c.add_all.ensures.more))

pub returns-clause-added : goal.returns-clause-added
returns-clause-added g c =
    let items = c.self.inside.items.items in
    let less : c.args.index < length items = subst (λ (ms : List MorePlaces). c.args.index < length ms) (sym c.self.view_is) c.requires in
    on_ok_as _ _ c.add_all.result
    (λ ok i is. ap (λ (m : MorePlaces). has_more m i) (get_or-set_same items c.args.index c.add_all.new.self no_more less) ∙ ok i is)
    c.add_all.ensures.added
