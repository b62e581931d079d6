use Rattle.std.proofs.Common.{◌≡◌, length}
use Rattle.std.specs.List.{All}
use Rattle.regalloc2_parts.specs.AtOnce.{ends_of, IsOfMoves}
use Rattle.regalloc2_parts.specs.Giving.{IsGiving, HasGoneOn}
use Rattle.regalloc2_parts.proofs.moves.order.give_chain.Given as goal

abbrev pub invariant-loop-top : goal.invariant-loop-top
invariant-loop-top g l = record {
  as_many : length l.state ≡ length l.moves;
  giving : IsGiving (ends_of l.moves) l.nexts l.state l.chain.items (ends_of l.given.items) l.cut l.first;
  on : HasGoneOn l.initial.state l.state;
  of_moves : All (IsOfMoves l.moves) l.given.items;
}

abbrev pub decreases-loop-top : goal.decreases-loop-top
decreases-loop-top g l = length l.chain.items
