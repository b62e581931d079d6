use Rattle.std.specs.Prelude.{None}
use Rattle.regalloc2_analysis.proofs.MadeTables.{found_everywhere, only_none}
use Rattle.regalloc2_analysis.proofs.branch_defs.edges.no_edges.Goals as goal

pub returns-clause-none : goal.returns-clause-none
returns-clause-none g c = found_everywhere None c.args.num c.from_elem.result (only_none _ (λ x no. no)) c.from_elem.ensures.items_if_clones_equal
