use Rattle.std.proofs.Common.{◌∙◌, sym}
use Rattle.regalloc2_checker.proofs.TableSteps.{placed-missing, moved-is, moved-unlisted}
use Rattle.regalloc2_checker.proofs.transfer.make_move.Goals as goal

pub returns-in_default-clause-now : goal.returns-in_default-clause-now
returns-in_default-clause-now g c =
    placed-missing c.args.values.now.places c.args.to _ _ (sym c.position.ensures.position ∙ c.in_default.is) c.requires.listed

pub returns-in-None-clause-now : goal.returns-in-None-clause-now
returns-in-None-clause-now g c =
    moved-unlisted c.args.values.now c.clear.new.self c.args.from c.args.to c.in-Some.target c.requires.missing
    (sym c.position-2.ensures.position ∙ c.in-None.is) (sym c.position.ensures.position ∙ c.in-Some.is) c.position.ensures.packed
    c.clear.ensures.kept.places c.clear.ensures.now

pub returns-in_ok-copy-in-Some-position-clause-now : goal.returns-in_ok-copy-in-Some-position-clause-now
returns-in_ok-copy-in-Some-position-clause-now g c =
    moved-is c.args.values.now c.copy.new.self c.args.from c.args.to c.in-Some-position.source c.in-Some.target c.requires.missing
    (sym c.position-2.ensures.position ∙ c.in-Some-position.is) c.position-2.ensures.packed (sym c.position.ensures.position ∙ c.in-Some.is)
    c.position.ensures.packed c.copy.ensures.kept.places c.in_ok-copy-in-Some-position.ensures.now
