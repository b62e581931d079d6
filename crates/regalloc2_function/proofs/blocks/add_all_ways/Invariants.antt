use Rattle.std.proofs.Common.{ℕ, ◌≡◌, ◌<◌, ◌≤◌, length}
use Rattle.regalloc2_function.specs.FunctionValue.{block_at}
use Rattle.regalloc2_function.specs.WellFormed.{times_in}
use Rattle.regalloc2_function.specs.Inside.Ways.{listed_of}
use Rattle.regalloc2_function.proofs.blocks.add_all_ways.Given as goal

-- the positions of the blocks so far are listed
abbrev pub invariant-loop-b : goal.invariant-loop-b
invariant-loop-b g l = record {
  whole : l.b-end ≡ length (g.F.Function.function l.f).blocks;
  so_far : (n p : ℕ) → (p < l.b → times_in p (listed_of l.ways n) ≡ times_in n (block_at (g.F.Function.function l.f) p).succs)
      × (l.b ≤ p → times_in p (listed_of l.ways n) ≡ 0);
}
