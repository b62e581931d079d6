use Rattle.std.proofs.Common.{arith, sym}
use Rattle.regalloc2_checker_sets.proofs.Listed.{at-position, not-listed}
use Rattle.regalloc2_checker.proofs.Holders.{home-at}
use Rattle.regalloc2_checker_sets.proofs.Results.{on_ok_as}
use Rattle.regalloc2_checker.proofs.tables.note_places.Goals as goal

pub returns-in_default-clause-noted : goal.returns-in_default-clause-noted
returns-in_default-clause-noted g c i is j less e = absurd (not-listed c.args.vregs.now c.args.bits c.requires.rising (sym c.in_default.ensures) j less e)

pub add_all-requires : goal.add_all-requires
add_all-requires g c =
    let at = at-position c.args.vregs.now c.args.bits c.in-Some.vreg (sym c.in-Some.ensures) in
    omega (arith, at.0, c.requires.homes)

pub returns-clause-noted : goal.returns-clause-noted
returns-clause-noted g c =
    let at = at-position c.args.vregs.now c.args.bits c.in-Some.vreg (sym c.in-Some.ensures) in
    on_ok_as _ _ c.add_all.result
    (λ ok i is. home-at c.args.vregs.now c.add_all.new.self c.in-Some.vreg i c.args.bits c.requires.rising at.0 at.1 (ok i is)) c.add_all.ensures.noted
