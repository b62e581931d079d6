use Rattle.std.proofs.Common.{List, sym, subst}
use Rattle.regalloc2_checker_sets.specs.Homes.{MorePlaces, AreMorePlaces, AreGrown}
use Rattle.regalloc2_checker_sets.proofs.MoreLists.{places-push, grown-push}
use Rattle.regalloc2_checker_sets.proofs.more_places.MoreList.push.Goals as goal

pub invariant_of-self-2 : goal.invariant_of-self-2
invariant_of-self-2 g c =
    subst (λ (ms : List MorePlaces). AreGrown ms c.self.inside.grown.items) (sym c.in_ok-push.ensures.items)
    (grown-push c.self.inside.items.items c.self.inside.grown.items c.new.result c.new.ensures c.self.invariant)

pub returns-clause-more : goal.returns-clause-more
returns-clause-more g c =
    subst (λ (ms : List MorePlaces). AreMorePlaces ms c.push.new.self.items) c.self.view_is
    (subst (AreMorePlaces c.self.inside.items.items) (sym c.in_ok-push.ensures.items) (places-push c.self.inside.items.items c.new.result))
