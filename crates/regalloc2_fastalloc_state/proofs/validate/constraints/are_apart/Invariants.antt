use Rattle.std.proofs.Common.{◌≡◌}
use Rattle.std.specs.Prelude.{length}
use Rattle.regalloc2_function.specs.WellFormed.{AreReusesApart}
use Rattle.regalloc2_fastalloc_state.proofs.ValidateLemmas.ConstraintTests.{AreNamed}
use Rattle.regalloc2_fastalloc_state.proofs.validate.constraints.are_apart.Given as goal

abbrev pub invariant-loop-k : goal.invariant-loop-k
invariant-loop-k l = record {
  long : length l.named ≡ 32;
  named : AreNamed l.operands l.k l.named;
  apart : AreReusesApart l.operands l.k;
}
