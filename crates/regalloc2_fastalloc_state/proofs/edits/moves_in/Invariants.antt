use Rattle.std.proofs.Common.{◌≡◌, ◌-◌, ◌^◌, flat_map, length, min}
use Rattle.std.specs.Prelude.{take}
use Rattle.regalloc2_fastalloc_state.proofs.edits.moves_in.Given as goal

-- the moves of the chunks before, or the greatest number
abbrev pub invariant-loop-chunk : goal.invariant-loop-chunk
invariant-loop-chunk g l = record {
  so_far : l.moves ≡ min (length (flat_map (λ chunk. chunk.items) (take l.chunk-index l.chunks))) (2 ^ 64 - 1);
}
