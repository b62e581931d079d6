use Rattle.regalloc2_parts.proofs.RingLinks.{neighbours_fit, node_removed}
use Rattle.regalloc2_parts.proofs.lru.nodes.take_out_node.Goals as goal

pub link-requires-clause-prev : goal.link-requires-clause-prev
link-requires-clause-prev c = (neighbours_fit c.args.nodes.now c.args.head c.args.number _ c.requires.ring c.requires.member c.requires.other).0

pub link-requires-clause-next : goal.link-requires-clause-next
link-requires-clause-next c = (neighbours_fit c.args.nodes.now c.args.head c.args.number _ c.requires.ring c.requires.member c.requires.other).1

pub returns-clause-ring : goal.returns-clause-ring
returns-clause-ring c =
    node_removed c.args.nodes.now c.link.new.nodes c.args.head c.args.number (record { prev = 0; next = 0 }) c.requires.ring c.requires.member
    c.requires.other c.link.ensures.nexts c.link.ensures.prevs
