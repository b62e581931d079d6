use Rattle.std.proofs.Common.{◌≡◌, ◌≢◌, ◌<◌, ◌≤◌, ◌∙◌, ◌∷◌, List, ap, arith, length, subst, sym}
use Rattle.std.specs.Prelude.{All, map}
use Rattle.std.specs.Vec.{with_items}
use Rattle.std.proofs.lemmas.List.{with_items_is}
use Rattle.regalloc2_names.specs.Register.{VirtualRegister}
use Rattle.regalloc2_parts.specs.declared.vregset.VRegNode.{VRegNode}
use Rattle.regalloc2_parts.specs.LiveList.{LiveList, NamesEachOnce}
use Rattle.regalloc2_parts.specs.Links.{IsFewLinksApart}
use Rattle.regalloc2_parts.specs.VRegNodes.{IsVRegList, members_of, vreg_changed_links, vreg_ring_numbers}
use Rattle.regalloc2_parts.proofs.VRegLinks.{absent_numbers, few_apart, proper}
use Rattle.regalloc2_parts.proofs.vregset.VRegSet.insert.Goals as goal

pub insert_node-requires : goal.insert_node-requires
insert_node-requires g c =
    let nodes = c.self.inside.nodes.items in
    let head = c.self.inside.head in
    let k = c.args.vreg.number in
    let absent = subst (λ (s : LiveList). All (λ v. v.number ≢ k) s.members) (sym c.self.view_is) c.requires.absent in
    record {
      list = subst (λ (l : List VRegNode). IsVRegList l head) (sym c.deref_mut.ensures.value) c.self.invariant;
      below = subst (λ (s : LiveList). k < s.capacity) (sym c.self.view_is) c.requires.below;
      absent = subst (λ (l : List VRegNode). All (λ n. n ≢ k) (vreg_ring_numbers l head)) (sym c.deref_mut.ensures.value)
          (absent_numbers nodes head k c.self.invariant absent);
    }

pub returns-clause-proper : goal.returns-clause-proper
returns-clause-proper g c =
    let long : length c.insert_node.new.nodes ≡ length c.self.inside.nodes.items =
    c.insert_node.ensures.long ∙ ap (λ l. length l) c.deref_mut.ensures.value in
    subst (λ (l : List VRegNode). NamesEachOnce (members_of l c.self.inside.head) c.self.inside.head)
    (sym (with_items_is c.self.inside.nodes c.insert_node.new.nodes (omega (arith, long))))
    (proper c.insert_node.new.nodes c.self.inside.head c.insert_node.ensures.list.list)

pub invariant_of-self : goal.invariant_of-self
invariant_of-self g c =
    let long : length c.insert_node.new.nodes ≡ length c.self.inside.nodes.items =
    c.insert_node.ensures.long ∙ ap (λ l. length l) c.deref_mut.ensures.value in
    subst (λ (l : List VRegNode). IsVRegList l c.self.inside.head) (sym (with_items_is c.self.inside.nodes c.insert_node.new.nodes (omega (arith, long))))
    c.insert_node.ensures.list.list

pub returns-clause-inserted : goal.returns-clause-inserted
returns-clause-inserted g c =
    let head = c.self.inside.head in
    let long : length c.insert_node.new.nodes ≡ length c.self.inside.nodes.items =
    c.insert_node.ensures.long ∙ ap (λ l. length l) c.deref_mut.ensures.value in
    ap (λ (l : List VRegNode). let value : LiveList = record { members = members_of l head; capacity = head } in value)
    (with_items_is c.self.inside.nodes c.insert_node.new.nodes (omega (arith, long)))
    ∙ ap (λ (vs : List VirtualRegister). let value : LiveList = record { members = vs; capacity = head } in value)
    (c.insert_node.ensures.list.are ∙ ap (λ (l : List VRegNode). c.args.vreg ∷ (members_of l head)) c.deref_mut.ensures.value)
    ∙ ap (λ (s : LiveList). let value : LiveList = record { members = c.args.vreg ∷ s.members; capacity = s.capacity } in value) c.self.view_is

pub returns-clause-few : goal.returns-clause-few
returns-clause-few g c =
    let nodes = c.self.inside.nodes.items in
    let head = c.self.inside.head in
    let long : length c.insert_node.new.nodes ≡ length nodes = c.insert_node.ensures.long ∙ ap (λ l. length l) c.deref_mut.ensures.value in
    let few = subst (λ l. vreg_changed_links l c.insert_node.new.nodes ≤ 4) c.deref_mut.ensures.value c.insert_node.ensures.few in
    let apart = few_apart nodes c.insert_node.new.nodes head 4 c.self.invariant c.insert_node.ensures.list.list few in
    subst (λ (s : LiveList). IsFewLinksApart 4 (s.capacity ∷ map (λ v. v.number) s.members)
    (head ∷ map (λ v. v.number) (members_of (with_items c.self.inside.nodes c.insert_node.new.nodes).items head))) c.self.view_is
    (subst (λ (l : List VRegNode). IsFewLinksApart 4 (head ∷ map (λ v. v.number) (members_of nodes head)) (head ∷ map (λ v. v.number) (members_of l head)))
    (sym (with_items_is c.self.inside.nodes c.insert_node.new.nodes (omega (arith, long)))) apart)
