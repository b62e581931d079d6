use Rattle.std.proofs.Common.{ℕ, ◌+◌, ◌*◌, List, length, arith, ap, sym, ◌∙◌, subst}
use Rattle.std.specs.Prelude.{◌/◌}
use Rattle.std.specs.List.Sorted.{IsStrictlyIncreasing}
use Rattle.regalloc2_checker_sets.specs.EntrySets.{is_member}
use Rattle.regalloc2_checker.proofs.TableLaws.{new-all}
use Rattle.regalloc2_checker.proofs.tables.Tables.new.Goals as goal

pub invariant_of-result : goal.invariant_of-result
invariant_of-result g c =
    let e = c.in_ok-places.ensures in
    let long = ap (λ (l : List ℕ). length l) e in
    new-all c.in_ok-places.places c.args.vregs c.in_ok-entries.entries c.new-3.result c.in_ok-homes.homes
    (subst IsStrictlyIncreasing (sym e) c.requires.places) c.requires.vregs
    (c.in_ok-entries.ensures.chunks ∙ ap (λ n. 64 * (n / 64 + 1)) (c.len-3.ensures)) (omega (arith, long, c.len.ensures)) c.new-3.ensures
    (let h = c.in_ok-homes.ensures in omega arith) c.in_ok-entries.ensures.cells c.in_ok-entries.ensures.saved

pub returns-clause-now : goal.returns-clause-now
returns-clause-now g c i y = ap (λ n. is_member c.new-3.result n y) (c.in_ok-entries.ensures.cells i) ∙ c.new-3.ensures.members y

pub returns-clause-tables : goal.returns-clause-tables
returns-clause-tables g c k i y = ap (λ n. is_member c.new-3.result n y) (c.in_ok-entries.ensures.saved k i) ∙ c.new-3.ensures.members y

pub of-requires : goal.of-requires
of-requires g c = c.requires.places

pub returns-clause-places : goal.returns-clause-places
returns-clause-places g c = c.in_ok-places.ensures

pub returns-clause-count : goal.returns-clause-count
returns-clause-count g c = c.in_ok-entries.ensures.count
