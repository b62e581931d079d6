use Rattle.std.proofs.Common.{◌≡◌, true}
use Rattle.std.specs.Prelude.{◌↔◌, Contains}
use Rattle.regalloc2_names.specs.Register.{Register, has_register}
use Rattle.regalloc2_names.proofs.sets.PRegSetFromIteratorPReg.from_iter.Given as goal

abbrev pub invariant-loop-reg : goal.invariant-loop-reg
invariant-loop-reg g l = (r : Register) → (has_register l.set r ≡ true) ↔ Contains l.yielded r
