use Rattle.std.proofs.Common.{List, ap, refl, rules}
use Rattle.regalloc2_names.specs.Register.{VirtualRegister}
use Rattle.regalloc2_parts.specs.LiveList.{LiveList}
use Rattle.regalloc2_parts.proofs.VRegLinks.{new_list}
use Rattle.regalloc2_parts.proofs.vregset.VRegSet.with_capacity.Goals as goal

pub invariant_of-result : goal.invariant_of-result
invariant_of-result g c =
    (new_list c.in_ok-nodes.nodes.items c.args.num_vregs _ c.requires (c.in_ok-nodes.ensures.items_if_clones_equal (λ y h. search rules)) refl refl).list

pub returns-clause-made : goal.returns-clause-made
returns-clause-made g c =
    ap (λ (members : List VirtualRegister). let value : LiveList = record { members = members; capacity = c.args.num_vregs } in value)
    (new_list c.in_ok-nodes.nodes.items c.args.num_vregs _ c.requires (c.in_ok-nodes.ensures.items_if_clones_equal (λ y h. search rules)) refl refl).are
