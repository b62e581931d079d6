use Rattle.std.proofs.Common.{◌≡◌, take}
use Rattle.std.specs.Prelude.{All}
use Rattle.regalloc2_function.specs.Misfit.{IsSlotApart}
use Rattle.regalloc2_function.specs.Views.{machine_of}
use Rattle.regalloc2_function.proofs.machine.MachineEnv.test_slots.Given as goal

-- the slots so far are apart from the class's registers
abbrev pub invariant-loop-slot : goal.invariant-loop-slot
invariant-loop-slot g l = record {
  slots : l.slot-items ≡ l.self.fixed_stack_slots.items;
  apart : All (IsSlotApart (machine_of l.self) l.class) (take l.slot-index l.slot-items);
}
