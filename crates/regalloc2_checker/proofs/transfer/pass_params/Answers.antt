use Rattle.std.proofs.Common.{List, ℕ, length, map, refl, ◌∙◌, subst}
use Rattle.std.specs.Prelude.{min}
use Rattle.regalloc2_names.specs.RegisterBits.{bits_of_vreg}
use Rattle.regalloc2_checker_sets.specs.EntrySets.{taken_from}
use Rattle.regalloc2_checker_sets.proofs.Results.{on_ok_as}
use Rattle.regalloc2_checker.specs.Showing.{shows_now, ShowsNow}
use Rattle.regalloc2_checker.proofs.PassedTables.{all-renamed}
use Rattle.regalloc2_checker.proofs.transfer.pass_params.Goals as goal

pub returns-clause-now : goal.returns-clause-now
returns-clause-now g c =
    let params = c.args.params.now in
    let arguments = c.args.arguments.now in
    let taken = c.deref.ensures.value ∙ c.in_ok-taken.ensures.bits in
    let passed = c.deref-2.ensures.value ∙ c.in_ok-passed.ensures.bits in
    on_ok_as _ _ c.pass_all.result
    (λ ok. all-renamed c.args.values.now c.pass_all.new.self params arguments c.in_ok-taken.ensures.packed c.in_ok-passed.ensures.packed
    (min (length (map bits_of_vreg params)) (length (map bits_of_vreg arguments))) refl c.pass_all.ensures.kept.places
    (subst (λ (xs : List ℕ). ShowsNow c.pass_all.new.self (λ i y. shows_now c.args.values.now i
    (taken_from (map bits_of_vreg params) xs (min (length (map bits_of_vreg params)) (length xs)) y))) passed
    (subst (λ (xs : List ℕ). ShowsNow c.pass_all.new.self (λ i y. shows_now c.args.values.now i
    (taken_from xs c.deref-2.result.now (min (length xs) (length c.deref-2.result.now)) y))) taken ok))) c.pass_all.ensures.now
