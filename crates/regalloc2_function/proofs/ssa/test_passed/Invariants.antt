use Rattle.std.specs.Prelude.{All, flat_map}
use Rattle.regalloc2_index.specs.Range.{numbers_from}
use Rattle.regalloc2_function.specs.FunctionValue.{block_at}
use Rattle.regalloc2_function.specs.Inside.Definitions.{IsUsable, passed_at}
use Rattle.regalloc2_function.proofs.ssa.test_passed.Given as goal

-- the successors so far are passed what is usable
abbrev pub invariant-loop-k : goal.invariant-loop-k
invariant-loop-k g l = All (IsUsable l.defined) (flat_map (passed_at (block_at (g.F.Function.function l.f) l.block)) (numbers_from 0 l.k))
