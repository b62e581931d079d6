use Rattle.std.proofs.Common.{arith, sym}
use Rattle.regalloc2_checker_sets.proofs.Listed.{at-position, not-listed}
use Rattle.regalloc2_checker.proofs.Holders.{home-at}
use Rattle.regalloc2_checker_sets.proofs.Results.{on_ok_as}
use Rattle.regalloc2_checker.proofs.tables.note.Goals as goal

pub returns-in_default-clause-noted : goal.returns-in_default-clause-noted
returns-in_default-clause-noted g c j less e = absurd (not-listed c.args.vregs.now c.args.bits c.requires.rising (sym c.in_default.ensures) j less e)

pub add-requires-clause-vreg : goal.add-requires-clause-vreg
add-requires-clause-vreg g c =
    let at = at-position c.args.vregs.now c.args.bits c.in-Some.vreg (sym c.in-Some.ensures) in
    omega (arith, at.0, c.requires.homes)

pub returns-clause-noted : goal.returns-clause-noted
returns-clause-noted g c =
    let at = at-position c.args.vregs.now c.args.bits c.in-Some.vreg (sym c.in-Some.ensures) in
    on_ok_as _ _ c.add.result
    (λ ok. home-at c.args.vregs.now c.add.new.self c.in-Some.vreg c.args.place c.args.bits c.requires.rising at.0 at.1 ok) c.add.ensures.noted
