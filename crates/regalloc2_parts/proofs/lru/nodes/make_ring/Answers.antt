use Rattle.std.proofs.Common.{◌<◌, ◌∷◌, ◌++◌, ◌∙◌, ap, arith, length, List, sym}
use Rattle.std.specs.Prelude.{map}
use Rattle.regalloc2_names.specs.Register.{Register}
use Rattle.regalloc2_parts.specs.RingNodes.{ring_numbers}
use Rattle.regalloc2_parts.proofs.RingLinks.{absent_before, one_node_ring}
use Rattle.regalloc2_parts.proofs.lru.nodes.make_ring.Goals as goal

pub loop-preg-init : goal.loop-preg-init
loop-preg-init c =
    let room = c.requires.room in
    let fits : c.args.head < length c.args.nodes.now = omega (arith, c.requires.below) in
    let one = one_node_ring c.args.nodes.now c.link.new.nodes c.args.head fits c.link.ensures.nexts c.link.ensures.prevs in
    record {
      ring = one.ring;
      all = ap (λ l. l ++ map (λ (r : Register). r.number) c.into_iter-preg-iterator.result) one.are
          ∙ ap (λ (l : List Register). c.args.head ∷ map (λ (r : Register). r.number) l) c.into_iter-preg-iterator.ensures.into_iter_gives;
      long = c.link.ensures.long ∙ c.requires.room;
    }

pub append_node-requires-clause-absent : goal.append_node-requires-clause-absent
append_node-requires-clause-absent c =
    let numbers = ring_numbers c.loop-preg.nodes c.args.head in
    absent_before numbers c.hw_enc.result (map (λ (r : Register). r.number) c.next.new.self) (c.args.head ∷ map (λ (r : Register). r.number) c.args.rest)
    (rw c.hw_enc.ensures.number (rw c.in-Some.ensures.steps at c.loop-preg.invariant.all)) c.requires.distinct

pub append_node-requires-clause-ring : goal.append_node-requires-clause-ring
append_node-requires-clause-ring c = c.loop-preg.invariant.ring

pub append_node-requires-clause-below : goal.append_node-requires-clause-below
append_node-requires-clause-below c = omega (arith, c.hw_enc.ensures.small, c.loop-preg.invariant.long)

pub link-requires-clause-prev : goal.link-requires-clause-prev
link-requires-clause-prev c = omega (arith, c.requires.room, c.requires.below)

pub link-requires-clause-next : goal.link-requires-clause-next
link-requires-clause-next c = omega (arith, c.requires.room, c.requires.below)

pub returns-clause-long : goal.returns-clause-long
returns-clause-long c = c.loop-preg.invariant.long ∙ sym c.requires.room
