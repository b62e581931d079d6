use Rattle.regalloc2_names.proofs.ErrorNumbers.{kind_of_discriminant}
use Rattle.regalloc2_names.proofs.RegAllocErrorKind.number.Goals as goal

pub returns-clause-found_again : goal.returns-clause-found_again
returns-clause-found_again c = kind_of_discriminant c.args.self
