use Rattle.std.specs.List.{All}
use Rattle.regalloc2_parts.specs.Tracking.{IsMade}
use Rattle.regalloc2_parts.proofs.Tracking.{Follows}
use Rattle.regalloc2_parts.proofs.moves.scratch.MoveAndScratchResolver.expand.Given as goal

abbrev pub invariant-loop-m : goal.invariant-loop-m
invariant-loop-m g l = record {
  follows : Follows l.via.register l.via.save l.held l.moves l.out.items l.m-index;
  made : All (IsMade (λ p b. goal.IsStackAlloc-post g l.self.is_stack_alloc p b) l.via.register l.via.save l.moves) l.out.items;
}
