use Rattle.std.proofs.Common.{refl}
use Rattle.regalloc2_checker_sets.proofs.Bits.{ok-as}
use Rattle.regalloc2_checker_sets.proofs.Lone.{set-is}
use Rattle.regalloc2_checker_sets.proofs.sets.Sets.add.Goals as goal

pub returns-in-Some-clause-found : goal.returns-in-Some-clause-found
returns-in-Some-clause-found g c = c.in-Some.ensures c.in-Some.number refl

pub returns-clause-found : goal.returns-clause-found
returns-clause-found g c = ok-as _ _ c.keep_known.result (λ n h. set-is c.keep_known.new.self n _ _ c.in_ok-kept.ensures h) c.keep_known.ensures.found
