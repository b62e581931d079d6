use Rattle.std.proofs.Common.{ℕ, ◌≡◌, ◌<◌, false}
use Rattle.regalloc2_names.specs.Operand.{is_def}
use Rattle.regalloc2_function.specs.FunctionValue.{op_at}
use Rattle.regalloc2_analysis.proofs.branch_defs.edges.some_defines.Given as goal

-- the operands so far don't define
abbrev pub invariant-loop-k : goal.invariant-loop-k
invariant-loop-k l = record { so_far : (n : ℕ) → n < l.k → is_def (op_at l.operands n).kind ≡ false }
