use Rattle.regalloc2_parts.proofs.RingLinks.{changes_added, node_appended, oldest_fits}
use Rattle.regalloc2_parts.proofs.lru.nodes.append_node.Goals as goal

pub link-requires-clause-prev : goal.link-requires-clause-prev
link-requires-clause-prev c = oldest_fits c.args.nodes.now c.args.head _ c.requires.ring

pub returns-clause-ring : goal.returns-clause-ring
returns-clause-ring c =
    node_appended c.args.nodes.now c.link.new.nodes c.link-2.new.nodes c.args.head c.args.number (record { prev = 0; next = 0 }) c.requires.ring
    c.requires.absent c.requires.below c.link.ensures.nexts c.link.ensures.prevs c.link-2.ensures.nexts c.link-2.ensures.prevs

pub returns-clause-few : goal.returns-clause-few
returns-clause-few c =
    changes_added c.args.nodes.now c.link.new.nodes c.link-2.new.nodes 2 2 c.link.ensures.long c.link-2.ensures.long c.link.ensures.few c.link-2.ensures.few
