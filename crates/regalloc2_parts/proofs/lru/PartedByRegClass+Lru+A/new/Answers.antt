use Rattle.std.proofs.Common.{◌∙◌, refl}
use Rattle.std.proofs.lemmas.Result.{err_from_is_err_and}
use Rattle.regalloc2_parts.proofs.lru.PartedByRegClass+Lru+A.new.Goals as goal

pub returns-in_err-int-clause-memory : goal.returns-in_err-int-clause-memory
returns-in_err-int-clause-memory g c = let p = err_from_is_err_and c.from_residual.result c.from_residual.ensures.1 in rw p.1 (p.2 ∙ c.in_err-int.ensures.memory)

pub returns-in_err-float-clause-memory : goal.returns-in_err-float-clause-memory
returns-in_err-float-clause-memory g c = let p = err_from_is_err_and c.from_residual-in_err-float.result c.from_residual-in_err-float.ensures.1 in rw p.1 (p.2 ∙ c.in_err-float.ensures.memory)

pub returns-in_err-vector-clause-memory : goal.returns-in_err-vector-clause-memory
returns-in_err-vector-clause-memory g c = let p = err_from_is_err_and c.from_residual-in_err-vector.result c.from_residual-in_err-vector.ensures.1 in rw p.1 (p.2 ∙ c.in_err-vector.ensures.memory)

pub returns-clause-three : goal.returns-clause-three
returns-clause-three g c = refl

pub returns-clause-int : goal.returns-clause-int
returns-clause-int g c = c.in_ok-int.ensures.ring

pub returns-clause-float : goal.returns-clause-float
returns-clause-float g c = c.in_ok-float.ensures.ring

pub returns-clause-vector : goal.returns-clause-vector
returns-clause-vector g c = c.in_ok-vector.ensures.ring

pub returns-clause-memory : goal.returns-clause-memory
returns-clause-memory g c = tt

pub returns-clause-empty : goal.returns-clause-empty
returns-clause-empty g c = λ i f v. refl
