use Rattle.std.proofs.Common.{ℕ, ◌≡◌, ◌<◌, length, false}
use Rattle.std.specs.Prelude.{Any}
use Rattle.regalloc2_function.specs.FunctionValue.{inst_at}
use Rattle.regalloc2_names.specs.Operand.{is_fixed_nonallocatable}
use Rattle.regalloc2_function.proofs.machine.insts_name.Given as goal

-- no instruction so far names a vreg of the class
abbrev pub invariant-loop-i : goal.invariant-loop-i
invariant-loop-i g l = record {
  whole : l.i-end ≡ length (g.F.Function.function l.f).insts;
  none : (n : ℕ) → n < l.i → Any (λ o. (is_fixed_nonallocatable o ≡ false) × (o.vreg.class ≡ l.class)) (inst_at (g.F.Function.function l.f) n).operands → ⊥;
}
