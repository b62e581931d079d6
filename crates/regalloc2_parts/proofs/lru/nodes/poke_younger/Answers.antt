use Rattle.std.proofs.Common.{arith}
use Rattle.regalloc2_parts.specs.RingNodes.{others}
use Rattle.regalloc2_parts.proofs.RingLinks.{head_out, node_turned, none_changed}
use Rattle.regalloc2_parts.proofs.lru.nodes.poke_younger.Goals as goal

pub returns-then-number-head-clause-ring : goal.returns-then-number-head-clause-ring
returns-then-number-head-clause-ring c = head_out c.args.nodes.now c.args.head.now c.args.number c.requires.ring c.if-number-head.true

pub returns-then-number-head-clause-few : goal.returns-then-number-head-clause-few
returns-then-number-head-clause-few c = omega (arith, none_changed c.args.nodes.now)

pub returns-clause-ring : goal.returns-clause-ring
returns-clause-ring c =
    node_turned c.make_oldest.new.nodes c.args.head.now (others c.args.nodes.now c.args.head.now) c.args.number c.make_oldest.ensures.ring
    c.if-number-head.false
