use Rattle.std.proofs.Common.{◌≡◌, ◌++◌, ◌∷◌, length}
use Rattle.std.specs.Prelude.{map}
use Rattle.regalloc2_names.specs.Register.{Register}
use Rattle.regalloc2_parts.specs.RingNodes.{IsNodeRing, ring_numbers}
use Rattle.regalloc2_parts.proofs.lru.nodes.make_ring.Given as goal

abbrev pub invariant-loop-preg : goal.invariant-loop-preg
invariant-loop-preg l = record {
  ring : IsNodeRing l.nodes l.head;
  all : ring_numbers l.nodes l.head ++ map (λ (r : Register). r.number) l.preg-iterator ≡ l.head ∷ map (λ (r : Register). r.number) l.fn.rest;
  long : length l.nodes ≡ 64;
}
