use Rattle.std.proofs.Common.{◌≡◌, map, []}
use Rattle.std.specs.Prelude.{slice_index_or}
use Rattle.std.specs.List.{range_with_len}
use Rattle.regalloc2_function.specs.FunctionValue.{block_at}
use Rattle.regalloc2_serialize.proofs.from_function.copied_arguments.Given as goal

abbrev pub invariant-loop-k : goal.invariant-loop-k
invariant-loop-k g l = map (λ v. v.items) l.arguments.items ≡ map (λ k. slice_index_or (block_at (g.F.Function.function l.f) l.block).arguments k [])
    (range_with_len 0 l.k)
