use Rattle.std.proofs.Common.{◌≡◌}
use Rattle.std.specs.Prelude.{length}
use Rattle.regalloc2_fastalloc_state.proofs.ValidateLemmas.ConstraintTests.{AreNamed}
use Rattle.regalloc2_fastalloc_state.proofs.validate.constraints.named_by_reuses.Given as goal

abbrev pub invariant-loop-k : goal.invariant-loop-k
invariant-loop-k l = record {
  long : length l.named ≡ 32;
  named : AreNamed l.operands l.k l.named;
}
