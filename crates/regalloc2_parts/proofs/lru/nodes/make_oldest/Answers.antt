use Rattle.std.proofs.Common.{◌<◌, ◌++◌, ◌∷◌, [], List, ℕ, arith, length, subst}
use Rattle.regalloc2_parts.specs.RingNodes.{IsRingOfNumbers, ring_numbers}
use Rattle.regalloc2_parts.proofs.RingLinks.{changes_added, member_fits, taken_out}
use Rattle.regalloc2_parts.proofs.lru.nodes.make_oldest.Goals as goal

pub append_node-requires : goal.append_node-requires
append_node-requires c = record {
  ring = c.take_out_node.ensures.ring.ring;
  below = (let fits : c.args.number < length c.args.nodes.now = member_fits c.args.nodes.now c.args.head c.args.number c.requires.ring c.requires.member in
      omega (arith, c.take_out_node.ensures.long));
  absent = taken_out c.args.number _ (ring_numbers c.args.nodes.now c.args.head) c.take_out_node.ensures.ring.are;
}

pub returns-clause-ring : goal.returns-clause-ring
returns-clause-ring c =
    subst (λ (l : List ℕ). IsRingOfNumbers c.append_node.new.nodes c.args.head (l ++ c.args.number ∷ [])) c.take_out_node.ensures.ring.are
    c.append_node.ensures.ring

pub returns-clause-few : goal.returns-clause-few
returns-clause-few c =
    changes_added c.args.nodes.now c.take_out_node.new.nodes c.append_node.new.nodes 2 4 c.take_out_node.ensures.long c.append_node.ensures.long
    c.take_out_node.ensures.few c.append_node.ensures.few
