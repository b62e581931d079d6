use Rattle.std.proofs.Common.{◌≡◌, ◌<◌, length, take}
use Rattle.std.specs.Prelude.{All, flat_map}
use Rattle.regalloc2_function.proofs.blocks.test_successors.Given as goal

-- the entry and the successors so far are blocks
abbrev pub invariant-loop-b : goal.invariant-loop-b
invariant-loop-b g l = record {
  whole : l.num_blocks ≡ length (g.F.Function.function l.f).blocks;
  entry : (g.F.Function.function l.f).entry < length (g.F.Function.function l.f).blocks;
  so_far : All (λ s. s < length (g.F.Function.function l.f).blocks) (flat_map (λ b. b.succs) (take l.b (g.F.Function.function l.f).blocks));
}
