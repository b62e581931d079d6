use Rattle.std.proofs.Common.{false, nat_eq, length, arith, ap, ◌∙◌}
use Rattle.std.specs.Prelude.{◌&&◌, if◌then◌else◌}
use Rattle.regalloc2_function.specs.Numbers.{NumberSet, has_number}
use Rattle.regalloc2_checker_sets.specs.Held.{held}
use Rattle.regalloc2_checker.proofs.Holders.{dropped-all, dropped-few, dropped-had, still-then}
use Rattle.regalloc2_checker_sets.proofs.Results.{on_ok_as}
use Rattle.std.proofs.lemmas.Result.{err_from_is_err_and, on_err_weaker}
use Rattle.regalloc2_checker_sets.specs.Homes.{has_few}
use Rattle.regalloc2_checker.proofs.tables.drop_everywhere.Goals as goal

pub returns-in_default-clause-ok : goal.returns-in_default-clause-ok
returns-in_default-clause-ok g c =
    dropped-few (held c.args.sets.now c.args.entries.now) (held c.drop_few.new.sets c.drop_few.new.entries) c.args.home.now c.args.bits
    (length c.args.entries.now.cells) c.in_default.ensures.none c.in_ok-drop_few.ensures.ok

pub returns-clause-ok : goal.returns-clause-ok
returns-clause-ok g c =
    let long = c.in_ok-drop_few.ensures.still.long in
    on_ok_as _ _ c.drop_members.result
    (λ ok. dropped-all (held c.args.sets.now c.args.entries.now) (held c.drop_few.new.sets c.drop_few.new.entries)
    (held c.drop_members.new.sets c.drop_members.new.entries) c.args.home.now c.args.bits (length c.args.entries.now.cells) c.in_ok-drop_few.ensures.ok
    (λ i y l. ok i y (omega arith)
    ∙ ap (λ (s : NumberSet). if has_number s i && nat_eq y c.args.bits then false else held c.drop_few.new.sets c.drop_few.new.entries i y)
    c.in-Some.ensures.some)) c.drop_members.ensures.ok

pub returns-in_err-drop_few-clause-still : goal.returns-in_err-drop_few-clause-still
returns-in_err-drop_few-clause-still g c = c.in_err-drop_few.ensures.still

pub returns-in_err-drop_few-clause-err : goal.returns-in_err-drop_few-clause-err
returns-in_err-drop_few-clause-err g c =
    let p = err_from_is_err_and c.from_residual.result c.from_residual.ensures.1 in rw p.1 c.in_err-drop_few.ensures.err

pub returns-in_default-clause-still : goal.returns-in_default-clause-still
returns-in_default-clause-still g c = c.in_ok-drop_few.ensures.still

pub drop_members-requires : goal.drop_members-requires
drop_members-requires g c = c.in_ok-drop_few.ensures.still.below

pub returns-clause-still : goal.returns-clause-still
returns-clause-still g c =
    still-then c.args.sets.now c.drop_few.new.sets c.drop_members.new.sets c.args.entries.now c.drop_few.new.entries c.drop_members.new.entries
    c.in_ok-drop_few.ensures.still c.drop_members.ensures.still

pub returns-clause-err : goal.returns-clause-err
returns-clause-err g c =
    let long = c.in_ok-drop_few.ensures.still.long in
    on_err_weaker c.drop_members.result
    (λ err i y less is. dropped-had (has_few c.args.home.now i && nat_eq y c.args.bits) _ _ (c.in_ok-drop_few.ensures.ok i y less)
    (err i y (omega (arith, less, long)) is)) c.drop_members.ensures.err
