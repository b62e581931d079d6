use Rattle.std.proofs.lemmas.Result.{err_from_is_err_and}
use Rattle.regalloc2_serialize.proofs.FlatLemmas.NoValue.{none_begun, none_left, left_over}
use Rattle.regalloc2_serialize.proofs.flat.read.value_of.Goals as goal

pub returns-in_err-value-clause-shape : goal.returns-in_err-value-clause-shape
returns-in_err-value-clause-shape g c =
    let p = err_from_is_err_and c.from_residual.result c.from_residual.ensures.1 in
    rw (p.1, p.2) (λ e. none_begun g.T.Flat.words c.args.words.now (c.in_err-value.ensures.shape e))

pub returns-else-is_empty-clause-shape : goal.returns-else-is_empty-clause-shape
returns-else-is_empty-clause-shape g c e =
    none_left g.T.Flat.words g.met.T.Flat.one_rest c.args.words.now c.read.new.from.rest.now c.in_ok-value.value c.in_ok-value.ensures.ok
    (left_over c.read.new.from.rest.now c.is_empty.result c.if-is_empty.false c.is_empty.ensures)

pub returns-in_err-value-clause-faults : goal.returns-in_err-value-clause-faults
returns-in_err-value-clause-faults g c = let p = err_from_is_err_and c.from_residual.result c.from_residual.ensures.1 in rw (p.1, p.2) c.in_err-value.ensures.faults
