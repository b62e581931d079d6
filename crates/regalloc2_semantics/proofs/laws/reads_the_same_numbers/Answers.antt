use Rattle.regalloc2_semantics.proofs.ValueLaws.{same_numbers}
use Rattle.regalloc2_semantics.proofs.laws.reads_the_same_numbers.Goals as goal

pub returns : goal.returns
returns c = same_numbers
