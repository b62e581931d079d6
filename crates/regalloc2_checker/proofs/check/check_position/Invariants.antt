use Rattle.std.proofs.Common.{◌≡◌}
use Rattle.std.specs.Prelude.{true}
use Rattle.regalloc2_function.specs.Machine.{MachineValue}
use Rattle.regalloc2_checker.specs.CheckInputs.{AreStackSlots}
use Rattle.regalloc2_checker.specs.TableFacts.{facts_now}
use Rattle.regalloc2_checker.specs.Report.{AreFineBelow}
use Rattle.regalloc2_checker.proofs.check.check_position.Given as goal

-- the operands before k are fine
abbrev pub invariant-loop-k : goal.invariant-loop-k
invariant-loop-k g l = (env : MachineValue) → AreStackSlots env l.slots →
    AreFineBelow env l.at.operands.now l.at.places.now l.position (λ p v. facts_now l.values p v ≡ true) l.k
