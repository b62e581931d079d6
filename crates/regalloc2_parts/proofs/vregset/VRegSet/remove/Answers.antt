use Rattle.std.proofs.Common.{◌≡◌, ◌≤◌, ◌∷◌, ◌∙◌, List, ap, arith, length, subst, sym}
use Rattle.std.specs.Prelude.{◌==◌, Any, Contains, filter, map, not}
use Rattle.std.specs.Vec.{with_items}
use Rattle.std.proofs.lemmas.List.{with_items_is}
use Rattle.regalloc2_names.specs.Register.{VirtualRegister}
use Rattle.regalloc2_parts.specs.declared.vregset.VRegNode.{VRegNode}
use Rattle.regalloc2_parts.specs.LiveList.{LiveList, NamesEachOnce}
use Rattle.regalloc2_parts.specs.Links.{IsFewLinksApart}
use Rattle.regalloc2_parts.specs.VRegNodes.{IsVRegList, members_of, vreg_changed_links, vreg_ring_numbers}
use Rattle.regalloc2_parts.proofs.VRegLinks.{few_apart, member_below, member_number, proper}
use Rattle.regalloc2_parts.proofs.vregset.VRegSet.remove.Goals as goal

pub overflow_cast-vreg_num : goal.overflow_cast-vreg_num
overflow_cast-vreg_num g c =
    let nodes = c.self.inside.nodes.items in
    let any = subst (λ (s : LiveList). Any (λ v. v.number ≡ c.args.vreg_num) s.members) (sym c.self.view_is) c.requires in
    let below = member_below nodes c.self.inside.head c.args.vreg_num c.self.invariant
    (member_number nodes c.self.inside.head c.args.vreg_num c.self.invariant any) in
    let small = c.self.invariant.small in
    omega arith

pub remove_node-requires : goal.remove_node-requires
remove_node-requires g c =
    let nodes = c.self.inside.nodes.items in
    let any = subst (λ (s : LiveList). Any (λ v. v.number ≡ c.args.vreg_num) s.members) (sym c.self.view_is) c.requires in
    let there = member_number nodes c.self.inside.head c.args.vreg_num c.self.invariant any in
    record {
      list = subst (λ (l : List VRegNode). IsVRegList l c.self.inside.head) (sym c.deref_mut.ensures.value) c.self.invariant;
      member = subst (λ (l : List VRegNode). Contains (vreg_ring_numbers l c.self.inside.head) c.args.vreg_num) (sym c.deref_mut.ensures.value) there;
    }

pub returns-clause-proper : goal.returns-clause-proper
returns-clause-proper g c =
    let long : length c.remove_node.new.nodes ≡ length c.self.inside.nodes.items =
    c.remove_node.ensures.long ∙ ap (λ l. length l) c.deref_mut.ensures.value in
    subst (λ (l : List VRegNode). NamesEachOnce (members_of l c.self.inside.head) c.self.inside.head)
    (sym (with_items_is c.self.inside.nodes c.remove_node.new.nodes (omega (arith, long))))
    (proper c.remove_node.new.nodes c.self.inside.head c.remove_node.ensures.list.list)

pub invariant_of-self : goal.invariant_of-self
invariant_of-self g c =
    let long : length c.remove_node.new.nodes ≡ length c.self.inside.nodes.items =
    c.remove_node.ensures.long ∙ ap (λ l. length l) c.deref_mut.ensures.value in
    subst (λ (l : List VRegNode). IsVRegList l c.self.inside.head) (sym (with_items_is c.self.inside.nodes c.remove_node.new.nodes (omega (arith, long))))
    c.remove_node.ensures.list.list

pub returns-clause-removed : goal.returns-clause-removed
returns-clause-removed g c =
    let head = c.self.inside.head in
    let long : length c.remove_node.new.nodes ≡ length c.self.inside.nodes.items =
    c.remove_node.ensures.long ∙ ap (λ l. length l) c.deref_mut.ensures.value in
    ap (λ (l : List VRegNode). let value : LiveList = record { members = members_of l head; capacity = head } in value)
    (with_items_is c.self.inside.nodes c.remove_node.new.nodes (omega (arith, long)))
    ∙ ap (λ (vs : List VirtualRegister). let value : LiveList = record { members = vs; capacity = head } in value)
    (c.remove_node.ensures.list.are ∙ ap (λ (l : List VRegNode). filter (λ (v : VirtualRegister). not (v.number == c.args.vreg_num)) (members_of l head)) c.deref_mut.ensures.value)
    ∙ ap (λ (s : LiveList). let value : LiveList = record { members = filter (λ (v : VirtualRegister). not (v.number == c.args.vreg_num)) s.members; capacity = s.capacity } in value) c.self.view_is

pub returns-clause-few : goal.returns-clause-few
returns-clause-few g c =
    let nodes = c.self.inside.nodes.items in
    let head = c.self.inside.head in
    let long : length c.remove_node.new.nodes ≡ length nodes = c.remove_node.ensures.long ∙ ap (λ l. length l) c.deref_mut.ensures.value in
    let few = subst (λ l. vreg_changed_links l c.remove_node.new.nodes ≤ 2) c.deref_mut.ensures.value c.remove_node.ensures.few in
    let apart = few_apart nodes c.remove_node.new.nodes head 2 c.self.invariant c.remove_node.ensures.list.list few in
    subst (λ (s : LiveList). IsFewLinksApart 2 (s.capacity ∷ map (λ v. v.number) s.members)
    (head ∷ map (λ v. v.number) (members_of (with_items c.self.inside.nodes c.remove_node.new.nodes).items head))) c.self.view_is
    (subst (λ (l : List VRegNode). IsFewLinksApart 2 (head ∷ map (λ v. v.number) (members_of nodes head)) (head ∷ map (λ v. v.number) (members_of l head)))
    (sym (with_items_is c.self.inside.nodes c.remove_node.new.nodes (omega (arith, long)))) apart)
