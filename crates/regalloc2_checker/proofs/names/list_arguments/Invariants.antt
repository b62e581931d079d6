use Rattle.std.proofs.Common.{ℕ, ◌≡◌, ◌<◌, length}
use Rattle.std.specs.Prelude.{All}
use Rattle.regalloc2_function.specs.FunctionValue.{block_at}
use Rattle.regalloc2_semantics.specs.Runs.{arguments_at}
use Rattle.regalloc2_checker.specs.NamedBits.{IsMore}
use Rattle.regalloc2_checker.specs.TableFacts.{IsListedVReg}
use Rattle.regalloc2_checker.proofs.names.list_arguments.Given as goal

-- the arguments of the first k edges are listed
abbrev pub invariant-loop-k : goal.invariant-loop-k
invariant-loop-k g l = record {
  end : l.k-end ≡ length (block_at (g.F.Function.function l.f) l.block).succs;
  more : IsMore l.initial.bits l.bits;
  listed : (j : ℕ) → j < l.k → All (IsListedVReg l.bits) (arguments_at (g.F.Function.function l.f) l.block j);
}
