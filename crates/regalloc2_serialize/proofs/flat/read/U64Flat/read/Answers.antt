use Rattle.std.proofs.Common.{inl}
use Rattle.std.proofs.lemmas.Result.{err_from_is_err_and}
use Rattle.regalloc2_serialize.proofs.flat.read.U64Flat.read.Goals as goal

pub returns-in_err-low-clause-faults : goal.returns-in_err-low-clause-faults
returns-in_err-low-clause-faults c = let p = err_from_is_err_and c.from_residual.result c.from_residual.ensures.1 in rw (p.1, p.2) (inl c.in_err-low.ensures.err.0)

pub returns-in_err-high-clause-faults : goal.returns-in_err-high-clause-faults
returns-in_err-high-clause-faults c = let p = err_from_is_err_and c.from_residual-in_err-high.result c.from_residual-in_err-high.ensures.1 in rw (p.1, p.2) (inl c.in_err-high.ensures.err.0)
