use Rattle.std.proofs.Common.{◌≡◌, ◌≤◌, ◌+◌, ◌++◌, map, reverse, length, vec_len, vec_capacity}
use Rattle.std.specs.Prelude.{drop}
use Rattle.regalloc2_function.specs.Views.{edit_of}
use Rattle.regalloc2_fastalloc_state.specs.StateParts.{kept_move}
use Rattle.regalloc2_fastalloc_state.proofs.edits.list_chunk.Given as goal

-- the moves of the chunk from k on are listed, and there is room for the moves before k
abbrev pub invariant-loop-k : goal.invariant-loop-k
invariant-loop-k g l = record {
  within : l.k ≤ length l.chunk;
  room : vec_len l.listed + l.k ≤ vec_capacity l.listed;
  so_far : map edit_of l.listed.items ≡ map edit_of l.fn.listed.items ++ reverse (map kept_move (drop l.k l.chunk));
}

abbrev pub decreases-loop-k : goal.decreases-loop-k
decreases-loop-k g l = l.k
