use Rattle.std.proofs.Common.{◌≡◌, ◌++◌}
use Rattle.std.specs.Prelude.{All}
use Rattle.regalloc2_names.specs.Listed.{IsWalkOf}
use Rattle.regalloc2_function.proofs.machine.of_other_class.Given as goal

-- the registers so far are of the class
abbrev pub invariant-loop-reg : goal.invariant-loop-reg
invariant-loop-reg l = record {
  left : IsWalkOf l.fn.set (l.yielded ++ l.reg-iterator);
  of_class : All (λ r. r.class ≡ l.class) l.yielded;
}
