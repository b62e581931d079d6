use Rattle.std.proofs.Common.{arith}
use Rattle.regalloc2_parts.proofs.RingLinks.{none_changed, oldest_as_head}
use Rattle.regalloc2_parts.proofs.lru.nodes.poke_node.Goals as goal

pub returns-then-nodes-head-clause-ring : goal.returns-then-nodes-head-clause-ring
returns-then-nodes-head-clause-ring c =
    oldest_as_head c.args.nodes.now c.args.head.now c.args.number (record { prev = 0; next = 0 }) c.requires.ring c.if-nodes-head.true

pub returns-then-nodes-head-clause-few : goal.returns-then-nodes-head-clause-few
returns-then-nodes-head-clause-few c = omega (arith, none_changed c.args.nodes.now)
