use Rattle.std.proofs.Common.{◌≡◌, ◌≤◌, ◌∷◌, ◌∙◌, ap, length, refl, subst, sym, arith, List, ℕ}
use Rattle.std.specs.Prelude.{Contains, map}
use Rattle.std.specs.Vec.{with_items}
use Rattle.std.specs.List.{IsDistinct}
use Rattle.std.proofs.lemmas.List.{with_items_is}
use Rattle.regalloc2_names.specs.Register.{Register, is_register}
use Rattle.regalloc2_parts.specs.Links.{IsFewLinksApart}
use Rattle.regalloc2_parts.specs.RingNodes.{IsLruNodes, IsNodeRing, lru_changed_links, ring_numbers, ring_registers}
use Rattle.regalloc2_parts.specs.declared.lru.nodes.LruNode.{LruNode}
use Rattle.regalloc2_parts.proofs.Numbers.{without}
use Rattle.regalloc2_parts.proofs.Poked.{same_members, still_distinct}
use Rattle.regalloc2_parts.proofs.RingRegisters.{few_apart, has_nodes, member_number, poked_registers, registers_distinct, still_nodes}
use Rattle.regalloc2_parts.proofs.lru.Lru.poke.Goals as goal

pub poke_node-requires : goal.poke_node-requires
poke_node-requires g c =
    let nodes = c.self.inside.nodes.items in
    let head = c.self.inside.head in
    let mem : Contains (ring_registers nodes head c.self.inside.class) c.args.preg = rw c.self.view_is c.requires in
    let some = has_nodes nodes head c.self.inside.class c.args.preg mem in
    let there = (member_number nodes head c.self.inside.class c.args.preg mem).there in
    record {
      ring = subst (λ l. IsNodeRing l head) (sym c.deref_mut.ensures.value) (c.self.invariant.ring some);
      member = subst (λ (l : List LruNode). Contains (ring_numbers l head) c.hw_enc.result) (sym c.deref_mut.ensures.value) (rw c.hw_enc.ensures.number there);
    }

pub returns-clause-moved : goal.returns-clause-moved
returns-clause-moved g c =
    let nodes = c.self.inside.nodes.items in
    let head = c.self.inside.head in
    let class = c.self.inside.class in
    let mem : Contains (ring_registers nodes head class) c.args.preg = rw c.self.view_is c.requires in
    let long : length c.poke_node.new.nodes ≡ length nodes = c.poke_node.ensures.long ∙ ap (λ l. length l) c.deref_mut.ensures.value in
    ap (λ l. ring_registers l c.poke_node.new.head class) (with_items_is c.self.inside.nodes c.poke_node.new.nodes (omega (arith, long)))
    ∙ poked_registers nodes c.poke_node.new.nodes head c.poke_node.new.head class c.args.preg mem long
    (subst (λ (n : ℕ). ring_numbers c.poke_node.new.nodes c.poke_node.new.head ≡ n ∷ without n (ring_numbers nodes head)) c.hw_enc.ensures.number
    (subst (λ (l : List LruNode). ring_numbers c.poke_node.new.nodes c.poke_node.new.head ≡ c.hw_enc.result ∷ without c.hw_enc.result (ring_numbers l head))
    c.deref_mut.ensures.value c.poke_node.ensures.ring.are))
    ∙ rw c.self.view_is refl

pub invariant_of-self : goal.invariant_of-self
invariant_of-self g c =
    let nodes = c.self.inside.nodes.items in
    let long : length c.poke_node.new.nodes ≡ length nodes = c.poke_node.ensures.long ∙ ap (λ l. length l) c.deref_mut.ensures.value in
    subst (λ l. IsLruNodes l c.poke_node.new.head) (sym (with_items_is c.self.inside.nodes c.poke_node.new.nodes (omega (arith, long))))
    (still_nodes nodes c.poke_node.new.nodes c.self.inside.head c.poke_node.new.head c.self.invariant long c.poke_node.ensures.ring.ring)

pub returns-clause-members : goal.returns-clause-members
returns-clause-members g c = λ r. rw (returns-clause-moved g c) (same_members c.args.preg c.args.self.now c.requires r)

pub returns-clause-distinct : goal.returns-clause-distinct
returns-clause-distinct g c =
    let before : IsDistinct is_register c.args.self.now =
    rw (← c.self.view_is) (registers_distinct c.self.inside.nodes.items c.self.inside.head c.self.inside.class c.self.invariant) in
    rw (returns-clause-moved g c) (still_distinct c.args.preg c.args.self.now before)

pub returns-clause-few : goal.returns-clause-few
returns-clause-few g c =
    let nodes = c.self.inside.nodes.items in
    let head = c.self.inside.head in
    let class = c.self.inside.class in
    let mem : Contains (ring_registers nodes head class) c.args.preg = rw c.self.view_is c.requires in
    let some = has_nodes nodes head class c.args.preg mem in
    let long : length c.poke_node.new.nodes ≡ length nodes = c.poke_node.ensures.long ∙ ap (λ l. length l) c.deref_mut.ensures.value in
    let few = subst (λ l. lru_changed_links l c.poke_node.new.nodes ≤ 6) c.deref_mut.ensures.value c.poke_node.ensures.few in
    let apart = few_apart nodes c.poke_node.new.nodes head c.poke_node.new.head class some long (c.self.invariant.ring some) c.poke_node.ensures.ring.ring few in
    subst (λ (ring : List Register). IsFewLinksApart 6 (map (λ r. r.number) ring)
    (map (λ r. r.number) (ring_registers (with_items c.self.inside.nodes c.poke_node.new.nodes).items c.poke_node.new.head class))) c.self.view_is
    (subst (λ (l : List LruNode). IsFewLinksApart 6 (map (λ r. r.number) (ring_registers nodes head class))
    (map (λ r. r.number) (ring_registers l c.poke_node.new.head class)))
    (sym (with_items_is c.self.inside.nodes c.poke_node.new.nodes (omega (arith, long)))) apart)
