use Rattle.std.proofs.Common.{ℕ, ◌≡◌, ◌<◌, ◌≤◌, length, slice_index_or, []}
use Rattle.std.specs.Prelude.{Any}
use Rattle.regalloc2_function.specs.FunctionValue.{block_at}
use Rattle.regalloc2_function.proofs.machine.arguments_name.Given as goal

-- no argument so far names a vreg of the class
abbrev pub invariant-loop-k : goal.invariant-loop-k
invariant-loop-k g l = record {
  whole : l.k-end ≡ length (block_at (g.F.Function.function l.f) l.block).succs;
  range : l.range ≡ (block_at (g.F.Function.function l.f) l.block).range;
  nonempty : l.range.first < l.range.end;
  within : l.range.end ≤ length (g.F.Function.function l.f).insts;
  none : (n : ℕ) → n < l.k → Any (λ v. v.class ≡ l.class) (slice_index_or (block_at (g.F.Function.function l.f) l.block).arguments n []) → ⊥;
}
