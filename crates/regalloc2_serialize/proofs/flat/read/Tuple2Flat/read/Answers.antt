use Rattle.std.proofs.Common.{append_assoc, ap, sym, ◌∙◌, ◌++◌}
use Rattle.std.proofs.lemmas.Result.{err_from_is_err_and}
use Rattle.regalloc2_serialize.proofs.flat.read.Tuple2Flat.read.Goals as goal

pub returns-in_err-first-clause-shape : goal.returns-in_err-first-clause-shape
returns-in_err-first-clause-shape g c =
    let p = err_from_is_err_and c.from_residual.result c.from_residual.ensures.1 in
    rw (p.1, p.2) (λ e x rest h. c.in_err-first.ensures.shape e x.0 (g.B.Flat.words x.1 ++ rest) (h
    ∙ append_assoc (g.A.Flat.words x.0) (g.B.Flat.words x.1) rest))

pub returns-in_err-second-clause-shape : goal.returns-in_err-second-clause-shape
returns-in_err-second-clause-shape g c =
    let p = err_from_is_err_and c.from_residual-in_err-second.result c.from_residual-in_err-second.ensures.1 in
    rw (p.1, p.2) (λ e x rest h. c.in_err-second.ensures.shape e x.1 rest (g.met.A.Flat.one_rest c.in_ok-first.first x.0 _ (g.B.Flat.words x.1 ++ rest)
    (sym c.in_ok-first.ensures.ok ∙ h ∙ append_assoc (g.A.Flat.words x.0) (g.B.Flat.words x.1) rest)))

pub returns-clause-ok : goal.returns-clause-ok
returns-clause-ok g c =
    c.in_ok-first.ensures.ok ∙ ap (λ zs. g.A.Flat.words c.in_ok-first.first ++ zs) c.in_ok-second.ensures.ok
    ∙ sym (append_assoc (g.A.Flat.words c.in_ok-first.first) (g.B.Flat.words c.in_ok-second.second) c.read-2.new.from.rest.now)

pub returns-in_err-first-clause-faults : goal.returns-in_err-first-clause-faults
returns-in_err-first-clause-faults g c = let p = err_from_is_err_and c.from_residual.result c.from_residual.ensures.1 in rw (p.1, p.2) c.in_err-first.ensures.faults

pub returns-in_err-second-clause-faults : goal.returns-in_err-second-clause-faults
returns-in_err-second-clause-faults g c = let p = err_from_is_err_and c.from_residual-in_err-second.result c.from_residual-in_err-second.ensures.1 in rw (p.1, p.2) c.in_err-second.ensures.faults
