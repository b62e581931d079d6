use Rattle.std.proofs.Common.{take}
use Rattle.regalloc2_parts.specs.Computed.{AreSeenApart}
use Rattle.regalloc2_parts.proofs.moves.scratch.MoveAndScratchResolver.has_stack_to_stack.Given as goal

abbrev pub invariant-loop-m : goal.invariant-loop-m
invariant-loop-m g l = AreSeenApart (λ p b. goal.IsStackAlloc-post g l.self.is_stack_alloc p b) (take l.m-index l.moves)
