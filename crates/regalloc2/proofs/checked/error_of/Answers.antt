use Rattle.std.proofs.Common.{inr, refl, rules}
use Rattle.regalloc2.proofs.checked.error_of.Goals as goal

pub returns-in_default : goal.returns-in_default
returns-in_default g c = inr (search rules, refl)
