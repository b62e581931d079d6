use Rattle.regalloc2_parts.proofs.RingLinks.{link_changes, nexts-linked, prevs-linked}
use Rattle.regalloc2_parts.proofs.lru.nodes.link.Goals as goal

pub returns-clause-nexts : goal.returns-clause-nexts
returns-clause-nexts c = nexts-linked c.args.nodes.now c.args.prev c.args.next (record { prev = 0; next = 0 })

pub returns-clause-prevs : goal.returns-clause-prevs
returns-clause-prevs c = prevs-linked c.args.nodes.now c.args.prev c.args.next (record { prev = 0; next = 0 })

pub returns-clause-few : goal.returns-clause-few
returns-clause-few c = link_changes c.args.nodes.now _ c.args.prev c.args.next (returns-clause-nexts c) (returns-clause-prevs c)
