use Rattle.std.proofs.Common.{◌≡◌, length}
use Rattle.regalloc2_parts.proofs.Following.{IsFollowing, todo_count}
use Rattle.regalloc2_parts.proofs.moves.order.follow.Given as goal

abbrev pub invariant-loop-at : goal.invariant-loop-at
invariant-loop-at g l = (length l.state ≡ length l.nexts) × IsFollowing l.nexts l.initial.state l.state l.chain.items l.start l.at

abbrev pub decreases-loop-at : goal.decreases-loop-at
decreases-loop-at g l = todo_count l.state
