use Rattle.regalloc2_semantics.proofs.RunLaws.{source_is_earlier, cells_are_earlier, missing_holds_nothing}
use Rattle.regalloc2_semantics.proofs.laws.finds_earlier_writes.Goals as goal

pub returns-clause-source : goal.returns-clause-source
returns-clause-source c = source_is_earlier

pub returns-clause-cells : goal.returns-clause-cells
returns-clause-cells c = cells_are_earlier

pub returns-clause-missing : goal.returns-clause-missing
returns-clause-missing c = missing_holds_nothing
