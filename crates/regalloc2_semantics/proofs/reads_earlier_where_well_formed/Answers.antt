use Rattle.regalloc2_semantics.proofs.UsesReadEarlierDefs.{well_formed_read_earlier, agreeing_reads_find_earlier, agrees_by_numbers}
use Rattle.regalloc2_semantics.proofs.reads_earlier_where_well_formed.Goals as goal

pub returns-clause-earlier : goal.returns-clause-earlier
returns-clause-earlier c = well_formed_read_earlier c.finds_earlier_writes.ensures.source

pub returns-clause-defined : goal.returns-clause-defined
returns-clause-defined c = agreeing_reads_find_earlier c.finds_earlier_writes.ensures.source

pub returns-clause-agree : goal.returns-clause-agree
returns-clause-agree c = agrees_by_numbers c.finds_earlier_writes.ensures.source c.agrees_where_numbers_do.ensures.reads
