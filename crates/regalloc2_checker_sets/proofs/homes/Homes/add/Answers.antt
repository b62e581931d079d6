use Rattle.std.proofs.Common.{◌<◌, List, length, map, arith, sym, ap, ◌∙◌, subst}
use Rattle.std.specs.Prelude.{slice_set}
use Rattle.std.proofs.lemmas.List.{length-map}
use Rattle.regalloc2_checker_sets.specs.Homes.{HomePlaces, HomeEntry, home_of, has_home, IsMoreHome}
use Rattle.regalloc2_checker_sets.specs.Homes.{AreMoreHomes}
use Rattle.regalloc2_checker_sets.proofs.HomeLists.{entry-first, entry-first_has, homes-put, homes-put_at}
use Rattle.regalloc2_checker_sets.proofs.MoreLists.{places-same}
use Rattle.regalloc2_checker_sets.proofs.Results.{on_ok_as}
use Rattle.regalloc2_checker_sets.proofs.homes.Homes.add.Goals as goal

pub returns-then-add-clause-more : goal.returns-then-add-clause-more
returns-then-add-clause-more g c =
    let old = c.self.inside.more in
    let all = c.self.inside.entries.items in
    let here : c.args.vreg < length (map (home_of old) all) = subst (λ (h : List HomePlaces). c.args.vreg < length h) (sym c.self.view_is) c.requires.vreg in
    let less : c.args.vreg < length all = omega (arith, here, length-map all (home_of old)) in
    let had = c.index_mut-entry.result.now in
    subst (λ (h : List HomePlaces). AreMoreHomes h (map (home_of old) (slice_set all c.args.vreg c.add.new.self))) c.self.view_is
    (homes-put old old all c.args.vreg had c.add.new.self less c.index_mut-entry.ensures.value (places-same old)
    (entry-first old had c.add.new.self c.args.place c.add.ensures.index (c.add.ensures.added c.if-add.true)))

pub returns-then-add-clause-noted : goal.returns-then-add-clause-noted
returns-then-add-clause-noted g c =
    let old = c.self.inside.more in
    let all = c.self.inside.entries.items in
    let here : c.args.vreg < length (map (home_of old) all) = subst (λ (h : List HomePlaces). c.args.vreg < length h) (sym c.self.view_is) c.requires.vreg in
    let less : c.args.vreg < length all = omega (arith, here, length-map all (home_of old)) in
    ap (λ (h : HomePlaces). has_home h c.args.place) (homes-put_at old all c.args.vreg c.add.new.self less)
    ∙ entry-first_has old c.index_mut-entry.result.now c.add.new.self c.args.place (c.add.ensures.added c.if-add.true)

pub returns-clause-more : goal.returns-clause-more
returns-clause-more g c =
    let old = c.self.inside.more in
    let all = c.self.inside.entries.items in
    let here : c.args.vreg < length (map (home_of old) all) = subst (λ (h : List HomePlaces). c.args.vreg < length h) (sym c.self.view_is) c.requires.vreg in
    let less : c.args.vreg < length all = omega (arith, here, length-map all (home_of old)) in
    let new = c.add_more.new.more in
    subst (λ (h : List HomePlaces). AreMoreHomes h (map (home_of new) (slice_set all c.args.vreg c.add_more.new.entry))) c.self.view_is
    (homes-put old new all c.args.vreg c.index_mut-entry.result.now c.add_more.new.entry less c.index_mut-entry.ensures.value c.add_more.ensures.others
    (subst (λ (e : HomeEntry). IsMoreHome (home_of old e) (home_of new c.add_more.new.entry)) (c.add.ensures.full c.if-add.false) c.add_more.ensures.kept))

pub returns-clause-noted : goal.returns-clause-noted
returns-clause-noted g c =
    let old = c.self.inside.more in
    let all = c.self.inside.entries.items in
    let here : c.args.vreg < length (map (home_of old) all) = subst (λ (h : List HomePlaces). c.args.vreg < length h) (sym c.self.view_is) c.requires.vreg in
    let less : c.args.vreg < length all = omega (arith, here, length-map all (home_of old)) in
    on_ok_as _ _ c.add_more.result
    (λ added. ap (λ (h : HomePlaces). has_home h c.args.place) (homes-put_at c.add_more.new.more all c.args.vreg c.add_more.new.entry less) ∙ added)
    c.add_more.ensures.added
