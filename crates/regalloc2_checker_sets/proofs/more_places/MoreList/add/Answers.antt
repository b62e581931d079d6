use Rattle.std.proofs.Common.{◌<◌, List, length, refl, sym, subst}
use Rattle.std.specs.Prelude.{slice_set}
use Rattle.regalloc2_checker_sets.specs.Homes.{MorePlaces, no_more, IsMore, AreMorePlaces}
use Rattle.regalloc2_checker_sets.proofs.Bits.{read-is}
use Rattle.regalloc2_checker_sets.proofs.MoreLaws.{same-more}
use Rattle.regalloc2_checker_sets.proofs.MoreLists.{places-set, grown-set}
use Rattle.regalloc2_checker_sets.proofs.more_places.MoreList.add.Goals as goal

pub returns-in_err-push-clause-more : goal.returns-in_err-push-clause-more
returns-in_err-push-clause-more g c =
    let items = c.self.inside.items.items in
    let less : c.args.index < length items = subst (λ (ms : List MorePlaces). c.args.index < length ms) (sym c.self.view_is) c.requires.index in
    let had = read-is items items c.args.index c.index_mut-more.result.now no_more refl less c.index_mut-more.ensures.value in
    subst (λ (ms : List MorePlaces). AreMorePlaces ms (slice_set items c.args.index c.index_mut-more.result.now)) c.self.view_is
    (places-set items c.args.index c.index_mut-more.result.now less
    (subst (λ (m : MorePlaces). IsMore m c.index_mut-more.result.now) had (same-more c.index_mut-more.result.now)))

pub invariant_of-self-2 : goal.invariant_of-self-2
invariant_of-self-2 g c =
    let items = c.self.inside.items.items in
    let less : c.args.index < length items = subst (λ (ms : List MorePlaces). c.args.index < length ms) (sym c.self.view_is) c.requires.index in
    grown-set items c.self.inside.grown.items c.push.new.self.items c.args.index c.add.new.self c.in_ok-push.ensures.items less c.self.invariant

pub returns-clause-more : goal.returns-clause-more
returns-clause-more g c =
    let items = c.self.inside.items.items in
    let less : c.args.index < length items = subst (λ (ms : List MorePlaces). c.args.index < length ms) (sym c.self.view_is) c.requires.index in
    let had = read-is items items c.args.index c.index_mut-more.result.now no_more refl less c.index_mut-more.ensures.value in
    subst (λ (ms : List MorePlaces). AreMorePlaces ms (slice_set items c.args.index c.add.new.self)) c.self.view_is
    (places-set items c.args.index c.add.new.self less (subst (λ (m : MorePlaces). IsMore m c.add.new.self) had c.add.ensures.more))
