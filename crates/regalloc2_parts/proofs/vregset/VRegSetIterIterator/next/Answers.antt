use Rattle.std.proofs.Common.{◌∙◌, rules, sym}
use Rattle.std.proofs.lemmas.Grind.{common_steps}
use Rattle.regalloc2_parts.proofs.VRegLinks.{at_node, iter_end, iter_steps}
use Rattle.regalloc2_parts.proofs.vregset.VRegSetIterIterator.next.Goals as goal

pub returns-then-self-clause-steps : goal.returns-then-self-clause-steps
returns-then-self-clause-steps c =
    let none = sym c.self.view_is ∙ iter_end c.self.inside.nodes.now c.self.inside.head c.self.inside.at c.if-self.true in
    (none, none)

pub bounds-self-inside-self-inside : goal.bounds-self-inside-self-inside
bounds-self-inside-self-inside c = at_node c.self.inside.nodes.now c.self.inside.head c.self.inside.at c.self.invariant c.if-self.false

pub invariant_of-self : goal.invariant_of-self
invariant_of-self c =
    (iter_steps c.self.inside.nodes.now c.self.inside.head c.self.inside.at c.index-self-self.result c.self.invariant c.if-self.false).proper

pub returns-clause-steps : goal.returns-clause-steps
returns-clause-steps c =
    sym c.self.view_is
    ∙ (iter_steps c.self.inside.nodes.now c.self.inside.head c.self.inside.at c.index-self-self.result c.self.invariant c.if-self.false).left

pub returns-clause-goes : goal.returns-clause-goes
returns-clause-goes c = let e = returns-clause-steps c in rw e (search (rules, common_steps))
