use Rattle.std.proofs.Common.{◌≡◌, true, take}
use Rattle.std.specs.Prelude.{◌↔◌, Contains}
use Rattle.regalloc2_names.specs.Register.{Register, has_register}
use Rattle.regalloc2_checker.proofs.constraints.stack_slots.Given as goal

abbrev pub invariant-loop-reg : goal.invariant-loop-reg
invariant-loop-reg g l = (r : Register) → (has_register l.slots r ≡ true) ↔ Contains (take l.reg-index l.reg-items) r
