use Rattle.std.proofs.Common.{ℕ, ◌≡◌, ◌<◌, length}
use Rattle.std.specs.Prelude.{All}
use Rattle.regalloc2_function.specs.FunctionValue.{block_at}
use Rattle.regalloc2_semantics.specs.Runs.{arguments_at}
use Rattle.regalloc2_checker.specs.NamedBits.{IsMore}
use Rattle.regalloc2_checker.specs.TableFacts.{IsListedVReg}
use Rattle.regalloc2_checker.proofs.names.list_all_blocks.Given as goal

-- the vregs of the first b blocks are listed
abbrev pub invariant-loop-b : goal.invariant-loop-b
invariant-loop-b g l = record {
  end : l.b-end ≡ length (g.F.Function.function l.f).blocks;
  more : IsMore l.initial.bits l.bits;
  params : (b : ℕ) → b < l.b → All (IsListedVReg l.bits) (block_at (g.F.Function.function l.f) b).params;
  arguments : (b : ℕ) → b < l.b → (k : ℕ) → k < length (block_at (g.F.Function.function l.f) b).succs →
      All (IsListedVReg l.bits) (arguments_at (g.F.Function.function l.f) b k);
}
