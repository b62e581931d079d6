use Rattle.std.proofs.Common.{◌<◌, List, length, map, arith, sym, ap, ◌∙◌, subst}
use Rattle.std.specs.Prelude.{slice_set}
use Rattle.std.proofs.lemmas.List.{length-map}
use Rattle.regalloc2_checker_sets.specs.Homes.{HomePlaces, home_of, has_home, AreMoreHomes}
use Rattle.regalloc2_checker_sets.proofs.HomeLists.{homes-put, homes-put_at}
use Rattle.regalloc2_checker_sets.proofs.Results.{on_ok_as}
use Rattle.regalloc2_checker_sets.proofs.homes.Homes.add_all.Goals as goal

pub returns-clause-more : goal.returns-clause-more
returns-clause-more g c =
    let old = c.self.inside.more in
    let all = c.self.inside.entries.items in
    let here : c.args.vreg < length (map (home_of old) all) = subst (λ (h : List HomePlaces). c.args.vreg < length h) (sym c.self.view_is) c.requires in
    let less : c.args.vreg < length all = omega (arith, here, length-map all (home_of old)) in
    let new = c.add_all_more.new.more in
    subst (λ (h : List HomePlaces). AreMoreHomes h (map (home_of new) (slice_set all c.args.vreg c.add_all_more.new.entry))) c.self.view_is
    (homes-put old new all c.args.vreg c.index_mut-entry.result.now c.add_all_more.new.entry less c.index_mut-entry.ensures.value
    c.add_all_more.ensures.others c.add_all_more.ensures.kept)

pub returns-clause-noted : goal.returns-clause-noted
returns-clause-noted g c =
    let old = c.self.inside.more in
    let all = c.self.inside.entries.items in
    let here : c.args.vreg < length (map (home_of old) all) = subst (λ (h : List HomePlaces). c.args.vreg < length h) (sym c.self.view_is) c.requires in
    let less : c.args.vreg < length all = omega (arith, here, length-map all (home_of old)) in
    on_ok_as _ _ c.add_all_more.result
    (λ added i is. ap (λ (h : HomePlaces). has_home h i) (homes-put_at c.add_all_more.new.more all c.args.vreg c.add_all_more.new.entry less) ∙ added i is)
    c.add_all_more.ensures.added
