use Rattle.std.proofs.Common.{◌≡◌, ◌++◌, map, flat_map, reverse, vec_len}
use Rattle.regalloc2_function.specs.Views.{edit_of}
use Rattle.regalloc2_fastalloc_state.specs.StateParts.{kept_move}
use Rattle.regalloc2_fastalloc_state.proofs.edits.Edits.listed.Given as goal

-- what is listed, and the moves of the chunks that are left
abbrev pub invariant-loop-chunk : goal.invariant-loop-chunk
invariant-loop-chunk g l = record {
  all : map edit_of l.listed.items ++ reverse (map kept_move (flat_map (λ chunk. chunk.items) l.full.items)) ≡ reverse l.fn.self;
}

abbrev pub decreases-loop-chunk : goal.decreases-loop-chunk
decreases-loop-chunk g l = vec_len l.full
