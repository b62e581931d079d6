use Rattle.regalloc2_parts.proofs.RingRegisters.{registers_distinct}
use Rattle.regalloc2_parts.proofs.lru.Lru.oldest_first.Goals as goal

pub returns-then-is_empty-clause-distinct : goal.returns-then-is_empty-clause-distinct
returns-then-is_empty-clause-distinct g c =
    rw (← c.self.view_is) (registers_distinct c.self.inside.nodes.items c.self.inside.head c.self.inside.class c.self.invariant)

pub returns-else-is_empty-clause-distinct : goal.returns-else-is_empty-clause-distinct
returns-else-is_empty-clause-distinct g c =
    rw (← c.self.view_is) (registers_distinct c.self.inside.nodes.items c.self.inside.head c.self.inside.class c.self.invariant)
