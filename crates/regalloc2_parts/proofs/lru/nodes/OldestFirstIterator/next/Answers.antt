use Rattle.std.proofs.Common.{◌<◌, ◌≤◌, ◌∷◌, ◌∙◌, ap, sym, subst, arith, length, rules, Option, Some, ℕ}
use Rattle.std.proofs.lemmas.Grind.{common_steps}
use Rattle.regalloc2_parts.specs.RingNodes.{IsLeft, left_of}
use Rattle.regalloc2_parts.proofs.OldestFirst.{Steps, at_node, last_step, steps}
use Rattle.regalloc2_parts.proofs.lru.nodes.OldestFirstIterator.next.Goals as goal
use Rattle.regalloc2_parts.proofs.lru.nodes.OldestFirstIterator.next.Goals.{then-at-self, else-at-self}

pub bounds-self-inside-at : goal.bounds-self-inside-at
bounds-self-inside-at c =
    let here : IsLeft c.self.inside.nodes.now c.self.inside.head (Some c.in_ok-at.at) =
    subst (λ (o : Option ℕ). IsLeft c.self.inside.nodes.now c.self.inside.head o) c.in_ok-at.was c.self.invariant in
    at_node c.self.inside.nodes.now c.self.inside.head c.in_ok-at.at here

pub new-requires : goal.new-requires
new-requires c =
    let here : IsLeft c.self.inside.nodes.now c.self.inside.head (Some c.in_ok-at.at) =
    subst (λ (o : Option ℕ). IsLeft c.self.inside.nodes.now c.self.inside.head o) c.in_ok-at.was c.self.invariant in
    let fits : c.in_ok-at.at < length c.self.inside.nodes.now = at_node c.self.inside.nodes.now c.self.inside.head c.in_ok-at.at here in
    let few : length c.self.inside.nodes.now ≤ 64 = here.few in
    omega arith

-- the step that was made
stepped : (c : goal.After-new) → Steps c.self.inside.nodes.now c.self.inside.head c.in_ok-at.at c.if-at-self.self c.self.inside.class
stepped c =
    let here : IsLeft c.self.inside.nodes.now c.self.inside.head (Some c.in_ok-at.at) =
    subst (λ (o : Option ℕ). IsLeft c.self.inside.nodes.now c.self.inside.head o) c.in_ok-at.was c.self.invariant in
    elim c.if-at-self.branch [
      | then-at-self w ↦ rw w.self-is (last_step c.self.inside.nodes.now c.self.inside.head c.in_ok-at.at c.self.inside.class here w.if-at-self.true)
      | else-at-self w ↦ rw w.self-is
          (steps c.self.inside.nodes.now c.self.inside.head c.in_ok-at.at (record { prev = 0; next = 0 }) c.self.inside.class here w.if-at-self.false)
    ]

pub invariant_of-self : goal.invariant_of-self
invariant_of-self c = (stepped c).proper

pub returns-clause-steps : goal.returns-clause-steps
returns-clause-steps c =
    sym c.self.view_is ∙ ap (λ (o : Option ℕ). left_of c.self.inside.nodes.now c.self.inside.head c.self.inside.class o) c.in_ok-at.was
    ∙ (stepped c).left ∙ ap (λ r. r ∷ left_of c.self.inside.nodes.now c.self.inside.head c.self.inside.class c.if-at-self.self) (sym c.new.ensures)

pub returns-clause-goes : goal.returns-clause-goes
returns-clause-goes c = let e = returns-clause-steps c in rw e (search (rules, common_steps))
