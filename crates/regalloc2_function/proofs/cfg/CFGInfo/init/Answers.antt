use Rattle.std.proofs.Common.{inl, refl}
use Rattle.std.proofs.lemmas.Result.{err_from_is_err_and}
use Rattle.regalloc2_function.proofs.cfg.CFGInfo.init.Goals as goal

pub returns-in_err-test_shape-clause-refused : goal.returns-in_err-test_shape-clause-refused
returns-in_err-test_shape-clause-refused g c =
    let p = err_from_is_err_and c.from_residual.result c.from_residual.ensures.1 in rw (p.1, p.2) c.in_err-test_shape.ensures.err

pub returns-in_err-test_shape-clause-accepted : goal.returns-in_err-test_shape-clause-accepted
returns-in_err-test_shape-clause-accepted g c =
    λ shape. (let p = err_from_is_err_and c.from_residual.result c.from_residual.ensures.1 in rw (p.1, p.2) (c.in_err-test_shape.ensures.accepted shape))

pub returns-in_err-test_shape-clause-empty : goal.returns-in_err-test_shape-clause-empty
returns-in_err-test_shape-clause-empty g c = let p = err_from_is_err_and c.from_residual.result c.from_residual.ensures.1 in rw p.1 c.clear.ensures

pub fill-requires-clause-shape : goal.fill-requires-clause-shape
fill-requires-clause-shape g c = c.in_ok-test_shape.ensures.ok

pub fill-requires-clause-empty : goal.fill-requires-clause-empty
fill-requires-clause-empty g c = c.clear.ensures

pub returns-in-Ok-clause-ok : goal.returns-in-Ok-clause-ok
returns-in-Ok-clause-ok g c = record { shape = c.in_ok-test_shape.ensures.ok; tables = c.in-Ok.ensures }

pub returns-in-Err-clause-refused : goal.returns-in-Err-clause-refused
returns-in-Err-clause-refused g c = inl refl

pub returns-in-Err-clause-empty : goal.returns-in-Err-clause-empty
returns-in-Err-clause-empty g c = c.clear-in-Err.ensures
