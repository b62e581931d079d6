use Rattle.std.proofs.Common.{◌≡◌, ◌+◌, ◌++◌, length}
use Rattle.regalloc2_index.specs.Range.{numbers_of}
use Rattle.regalloc2_function.specs.FunctionValue.{block_at}
use Rattle.regalloc2_analysis.specs.Liveness.BlockWalk.{IsBlockWalkedTo}
use Rattle.regalloc2_analysis.proofs.liveness.walk.walk_insts.Given as goal

-- the instructions so far are walked over
abbrev pub invariant-loop-inst : goal.invariant-loop-inst
invariant-loop-inst g l = record {
  left : l.yielded ++ l.inst-iterator ≡ numbers_of (block_at (g.F.Function.function l.f) l.block).range;
  so_far : IsBlockWalkedTo (g.F.Function.function l.f) l.block ((block_at (g.F.Function.function l.f) l.block).range.first + length l.yielded) l.fn.written
      l.fn.needs l.written l.needs;
}
