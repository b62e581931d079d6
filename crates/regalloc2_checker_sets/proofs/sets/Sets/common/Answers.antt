use Rattle.std.proofs.Common.{refl}
use Rattle.regalloc2_checker_sets.proofs.sets.Sets.common.Goals as goal

pub returns-in-Some-clause-found : goal.returns-in-Some-clause-found
returns-in-Some-clause-found g c = (c.in-Some.ensures c.in-Some.number refl).is

pub returns-in-Some-clause-less : goal.returns-in-Some-clause-less
returns-in-Some-clause-less g c = (c.in-Some.ensures c.in-Some.number refl).less
