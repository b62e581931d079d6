use Rattle.std.specs.List.{All}
use Rattle.regalloc2_parts.specs.AtOnce.{ends_of, IsOfMoves}
use Rattle.regalloc2_parts.proofs.Whole.{HasGivenTo}
use Rattle.regalloc2_parts.proofs.moves.order.give_chains.Given as goal

abbrev pub invariant-loop-start : goal.invariant-loop-start
invariant-loop-start g l = record {
  given : HasGivenTo (ends_of l.moves) l.nexts l.state (ends_of l.given.items) l.chain.items l.start;
  of_moves : All (IsOfMoves l.moves) l.given.items;
}
