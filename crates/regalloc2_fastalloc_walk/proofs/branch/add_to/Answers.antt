use Rattle.std.proofs.Common.{refl, rules}
use Rattle.regalloc2_fastalloc_walk.proofs.branch.add_to.Goals as goal

pub add-requires : goal.add-requires
add-requires g c = (search rules, (c.requires.from, c.requires.to))

pub returns-in-Ok-clause-ok : goal.returns-in-Ok-clause-ok
returns-in-Ok-clause-ok g c = c.in-Ok.ensures.ok

pub returns-in-Ok-clause-err : goal.returns-in-Ok-clause-err
returns-in-Ok-clause-err g c = tt

pub returns-in-Err-clause-ok : goal.returns-in-Err-clause-ok
returns-in-Err-clause-ok g c = tt

pub returns-in-Err-clause-err : goal.returns-in-Err-clause-err
returns-in-Err-clause-err g c = refl
