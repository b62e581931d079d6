use Rattle.std.proofs.Common.{List, subst, sym}
use Rattle.regalloc2_parts.specs.declared.vregset.VRegNode.{VRegNode}
use Rattle.regalloc2_parts.specs.Links.{IsWalk, walked_links}
use Rattle.regalloc2_parts.specs.VRegNodes.{nexts}
use Rattle.regalloc2_parts.proofs.VRegLinks.{iter_begins, proper}
use Rattle.regalloc2_parts.proofs.vregset.VRegSet.iter.Goals as goal

pub invariant_of-result : goal.invariant_of-result
invariant_of-result g c =
    let head = c.self.inside.head in
    let first = c.index.result.now.next in
    subst (λ (l : List VRegNode). IsWalk (nexts l) head first (walked_links (nexts l) head first)) (sym c.deref.ensures.value)
    (iter_begins c.self.inside.nodes.items head c.index.result.now c.self.invariant c.index.ensures)

pub returns-clause-proper : goal.returns-clause-proper
returns-clause-proper g c = rw (← c.self.view_is) (proper c.self.inside.nodes.items c.self.inside.head c.self.invariant)
