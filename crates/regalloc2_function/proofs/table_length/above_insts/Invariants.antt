use Rattle.std.proofs.Common.{ℕ, ◌≡◌, ◌<◌, ◌≤◌, length}
use Rattle.std.specs.Prelude.{All}
use Rattle.regalloc2_function.specs.FunctionValue.{inst_at}
use Rattle.regalloc2_function.specs.Inside.TableLength.{IsBelow}
use Rattle.regalloc2_function.proofs.TableLengths.{ReachedInInsts}
use Rattle.regalloc2_function.proofs.table_length.above_insts.Given as goal

-- the bound is above what the instructions so far define
abbrev pub invariant-loop-i : goal.invariant-loop-i
invariant-loop-i g l = record {
  whole : l.i-end ≡ length (g.F.Function.function l.f).insts;
  rises : l.bound ≤ l.above;
  above : (i : ℕ) → i < l.i → All (IsBelow l.above) (inst_at (g.F.Function.function l.f) i).operands;
  near : ReachedInInsts (g.F.Function.function l.f) l.bound l.above;
}
