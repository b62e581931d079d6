use Rattle.std.proofs.Common.{ap}
use Rattle.std.specs.Option.{is_some}
use Rattle.regalloc2_checker_sets.proofs.MoreLaws.{none-has}
use Rattle.regalloc2_checker_sets.proofs.more_places.add_others.Goals as goal

pub returns-clause-kept : goal.returns-clause-kept
returns-clause-kept g c i is = let none = none-has (λ b. b.value) c.args.others.now (ap is_some c.in_default.is) i in absurd cc
