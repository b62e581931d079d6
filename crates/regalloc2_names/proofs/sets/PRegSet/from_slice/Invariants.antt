use Rattle.std.proofs.Common.{◌≡◌, true, take}
use Rattle.std.specs.Prelude.{◌↔◌, Contains}
use Rattle.regalloc2_names.specs.Register.{Register, has_register}
use Rattle.regalloc2_names.proofs.sets.PRegSet.from_slice.Given as goal

-- the set has the registers that were passed
abbrev pub invariant-loop-reg : goal.invariant-loop-reg
invariant-loop-reg l = (r : Register) → (has_register l.set r ≡ true) ↔ Contains (take l.reg-index l.regs) r
