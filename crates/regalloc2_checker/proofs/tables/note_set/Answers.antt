use Rattle.std.proofs.Common.{ℕ, ap, sym, ◌∙◌, refl, subst}
use Rattle.std.proofs.lemmas.Bool.{eqb-true}
use Rattle.regalloc2_index.proofs.Bools.{not_both}
use Rattle.regalloc2_checker_sets.specs.EntrySets.{is_member}
use Rattle.regalloc2_checker.specs.Holding.{IsHome}
use Rattle.regalloc2_checker.proofs.Holders.{homes-same}
use Rattle.regalloc2_checker_sets.proofs.Results.{on_ok_as, on_ok_of_both}
use Rattle.regalloc2_checker_sets.proofs.TwoSets.{either_member}
use Rattle.regalloc2_checker.proofs.TableLaws.{listed-times}
use Rattle.regalloc2_checker.proofs.tables.note_set.Goals as goal

pub returns-then-set-eq0-clause-more : goal.returns-then-set-eq0-clause-more
returns-then-set-eq0-clause-more g c = homes-same c.args.homes.now

pub returns-then-set-eq0-clause-noted : goal.returns-then-set-eq0-clause-noted
returns-then-set-eq0-clause-noted g c y is =
    absurd (not_both (is_member c.args.sets.now 0 y) (ap (λ n. is_member c.args.sets.now n y) (sym c.if-set-eq0.true) ∙ is) (c.requires.empty y))

pub returns-in-Some-clause-noted : goal.returns-in-Some-clause-noted
returns-in-Some-clause-noted g c =
    let only = c.in-Some.ensures c.in-Some.only refl in
    on_ok_as _ _ c.note.result
    (λ ok y is. subst (λ (b : ℕ). IsHome c.args.vregs.now c.note.new.homes c.args.place b)
    (sym (eqb-true y c.in-Some.only (sym (only.members y) ∙ is))) ok) c.note.ensures.noted

pub returns-in_err-members-clause-more : goal.returns-in_err-members-clause-more
returns-in_err-members-clause-more g c = homes-same c.args.homes.now

pub returns-clause-noted : goal.returns-clause-noted
returns-clause-noted g c =
    on_ok_as _ _ c.note_all.result
    (λ ok y is. ok y (listed-times (is_member c.args.sets.now c.args.set) c.in_ok-members.members.items c.deref.result.now
    c.deref.ensures.value c.in_ok-members.ensures y is)) c.note_all.ensures.noted

pub returns-in-Some-two-clause-noted : goal.returns-in-Some-two-clause-noted
returns-in-Some-two-clause-noted g c =
    let members = c.in-Some-two.ensures c.in-Some-two.pair refl in
    on_ok_of_both _ _ _ c.note_two.result
    (λ first second y is. either_member (IsHome c.args.vregs.now c.note_two.new.homes c.args.place) c.in-Some-two.pair.0 c.in-Some-two.pair.1 y
    (sym (members y) ∙ is) first second) c.note_two.ensures.first c.note_two.ensures.second
