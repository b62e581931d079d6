use Rattle.codegen.proofs.RunLemmas.Written.{none_kept}
use Rattle.codegen.proofs.run.procedure.no_numbers.Goals as goal

pub returns : goal.returns
returns c = none_kept c.new.result c.new.ensures.empty
