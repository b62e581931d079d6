use Rattle.std.proofs.Common.{◌∙◌}
use Rattle.regalloc2_analysis.proofs.BranchDefsLemmas.EdgeNotes.{lists_nothing}
use Rattle.regalloc2_analysis.proofs.branch_defs.edges.list_held.Goals as goal

pub returns-then-eq : goal.returns-then-eq
returns-then-eq g c = lists_nothing c.args.used.now c.args.operands.now c.args.held c.requires.held
    (λ r. c.eq.ensures.members.0 c.if-eq.true r ∙ c.empty.ensures.none r) c.args.stored.now.items
