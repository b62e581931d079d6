use Rattle.regalloc2_semantics.proofs.ValuesLemmas.Runs.{faithful_run_alike, well_formed_run_alike}
use Rattle.regalloc2_semantics.proofs.values.runs_alike.Goals as goal

pub returns-clause-faithful : goal.returns-clause-faithful
returns-clause-faithful c = faithful_run_alike

pub returns-clause-well_formed : goal.returns-clause-well_formed
returns-clause-well_formed c = well_formed_run_alike c.reads_earlier_where_well_formed.ensures.defined
