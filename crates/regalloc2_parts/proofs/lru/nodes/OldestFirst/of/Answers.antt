use Rattle.regalloc2_parts.proofs.RingLinks.{head_fits, prev_at}
use Rattle.regalloc2_parts.proofs.OldestFirst.{begins}
use Rattle.regalloc2_parts.proofs.lru.nodes.OldestFirst.of.Goals as goal

pub invariant_of-result : goal.invariant_of-result
invariant_of-result c =
    (begins c.args.nodes.now c.args.head _ c.args.class c.requires.few c.requires.ring
    (prev_at c.args.nodes.now c.args.head (record { prev = 0; next = 0 }) (head_fits c.args.nodes.now c.args.head c.requires.ring))).proper

pub returns : goal.returns
returns c =
    (begins c.args.nodes.now c.args.head _ c.args.class c.requires.few c.requires.ring
    (prev_at c.args.nodes.now c.args.head (record { prev = 0; next = 0 }) (head_fits c.args.nodes.now c.args.head c.requires.ring))).left
