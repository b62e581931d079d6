use Rattle.regalloc2_parts.proofs.VRegLinks.{neighbours_fit, node_removed}
use Rattle.regalloc2_parts.proofs.vregset.remove_node.Goals as goal

pub link-requires-clause-prev : goal.link-requires-clause-prev
link-requires-clause-prev c =
    (neighbours_fit c.args.nodes.now c.args.head c.args.number c.index-nodes-number.result c.requires.list c.requires.member c.index-nodes-number.is).0

pub link-requires-clause-next : goal.link-requires-clause-next
link-requires-clause-next c =
    (neighbours_fit c.args.nodes.now c.args.head c.args.number c.index-nodes-number.result c.requires.list c.requires.member c.index-nodes-number.is).1

pub returns-clause-list : goal.returns-clause-list
returns-clause-list c =
    node_removed c.args.nodes.now c.link.new.nodes c.args.head c.args.number c.index-nodes-number.result c.requires.list c.requires.member
    c.index-nodes-number.is c.link.ensures.nexts c.link.ensures.prevs c.link.ensures.vregs
