use Rattle.std.proofs.Common.{ℕ, ◌≡◌, ◌<◌, length}
use Rattle.std.specs.Prelude.{Any, ◌⊎◌}
use Rattle.regalloc2_function.specs.FunctionValue.{block_at}
use Rattle.regalloc2_function.proofs.machine.blocks_name.Given as goal
use Rattle.regalloc2_function.specs.Inside.NamedClasses.{NamesByArgument}

-- no block so far names a vreg of the class
abbrev pub invariant-loop-b : goal.invariant-loop-b
invariant-loop-b g l = record {
  whole : l.b-end ≡ length (g.F.Function.function l.f).blocks;
  none : (n : ℕ) → n < l.b → Any (λ v. v.class ≡ l.class) (block_at (g.F.Function.function l.f) n).params
      ⊎ NamesByArgument (g.F.Function.function l.f) n l.class → ⊥;
}
