use Rattle.std.proofs.lemmas.Result.{err_from_is_err_and}
use Rattle.regalloc2_serialize.proofs.from_json.OptionFromValue.from_value.Goals as goal

pub returns-in_err-from_value-clause-faults : goal.returns-in_err-from_value-clause-faults
returns-in_err-from_value-clause-faults g c = let p = err_from_is_err_and c.from_residual.result c.from_residual.ensures.1 in rw (p.1, p.2) c.in_err-from_value.ensures.faults

pub returns-then-is_null-clause-faults : goal.returns-then-is_null-clause-faults
returns-then-is_null-clause-faults g c = tt

pub returns-then-is_null-clause-shape : goal.returns-then-is_null-clause-shape
returns-then-is_null-clause-shape g c = tt
