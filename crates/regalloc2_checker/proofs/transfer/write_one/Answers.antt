use Rattle.std.proofs.Common.{sym}
use Rattle.regalloc2_names.specs.RegisterBits.{bits_of_vreg}
use Rattle.regalloc2_checker.proofs.TableSteps.{defined-is, defined-nowhere, not-found}
use Rattle.regalloc2_checker.proofs.transfer.write_one.Goals as goal

pub returns-in_default-clause-now : goal.returns-in_default-clause-now
returns-in_default-clause-now g c =
    absurd (not-found c.args.values.now.vregs (bits_of_vreg c.args.vreg) (sym c.in_default.ensures.position) c.requires.vreg)

pub returns-in_default-position-clause-now : goal.returns-in_default-position-clause-now
returns-in_default-position-clause-now g c =
    defined-nowhere c.args.values.now c.forget.new.self c.args.place c.args.vreg c.in-Some.vreg (sym c.in_default-position.ensures.position) c.requires.listed
    (sym c.in-Some.ensures.position) c.forget.ensures.kept.places c.in_ok-forget.ensures.now

pub returns-clause-now : goal.returns-clause-now
returns-clause-now g c =
    defined-is c.args.values.now c.define.new.self c.args.place c.args.vreg c.in-Some-position.place c.in-Some.vreg c.requires.missing
    (sym c.in-Some-position.ensures.position) c.position.ensures.packed (sym c.in-Some.ensures.position) c.vreg_position.ensures.packed
    c.define.ensures.kept.places c.in_ok-define.ensures.now
