use Rattle.regalloc2_parts.proofs.VRegLinks.{link_changes, nexts-linked, prevs-linked, vregs-linked}
use Rattle.regalloc2_parts.proofs.vregset.link.Goals as goal

pub returns-clause-nexts : goal.returns-clause-nexts
returns-clause-nexts c = nexts-linked c.args.nodes.now c.args.prev c.args.next c.index-nodes-prev.result c.index-nodes-next.result

pub returns-clause-prevs : goal.returns-clause-prevs
returns-clause-prevs c = prevs-linked c.args.nodes.now c.args.prev c.args.next c.index-nodes-prev.result c.index-nodes-next.result

pub returns-clause-vregs : goal.returns-clause-vregs
returns-clause-vregs c = vregs-linked c.args.nodes.now c.args.prev c.args.next c.index-nodes-prev.result c.index-nodes-next.result

pub returns-clause-few : goal.returns-clause-few
returns-clause-few c = link_changes c.args.nodes.now _ c.args.prev c.args.next (returns-clause-nexts c) (returns-clause-prevs c)
