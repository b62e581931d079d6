use Rattle.regalloc2_semantics.proofs.ValueLaws.{reads_give_numbers}
use Rattle.regalloc2_semantics.proofs.Converse.{numbers_give_reads}
use Rattle.regalloc2_semantics.proofs.laws.agrees_where_numbers_do.Goals as goal

pub returns-clause-numbers : goal.returns-clause-numbers
returns-clause-numbers c = reads_give_numbers

pub returns-clause-reads : goal.returns-clause-reads
returns-clause-reads c = numbers_give_reads
