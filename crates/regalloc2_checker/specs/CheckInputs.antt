-- What the check of an instruction reads.
use Rattle.std.specs.Prelude.{◌≡◌, ◌↔◌, true}
use Rattle.regalloc2_names.specs.declared.OperandPos.{OperandPos}
use Rattle.regalloc2_names.specs.declared.sets.PRegSet.{PRegSet}
use Rattle.regalloc2_names.specs.Register.{Register, VirtualRegister, has_register}
use Rattle.regalloc2_names.specs.Place.{Place}
use Rattle.regalloc2_function.specs.FunctionValue.{FunctionValue}
use Rattle.regalloc2_function.specs.Machine.{MachineValue, IsFixedStackSlot}
use Rattle.regalloc2_function.specs.OutputValue.{OutputValue}
use Rattle.regalloc2_semantics.specs.Runs.{Location}
use Rattle.regalloc2_semantics.specs.Faithful.{HoldsOnPaths}
use Rattle.regalloc2_checker.specs.Facts.{Facts, facts_for}

-- a set of the registers that stand for stack places
abbrev pub AreStackSlots : MachineValue → PRegSet → Type 0
AreStackSlots env slots = (r : Register) → (has_register slots r ≡ true) ↔ IsFixedStackSlot env r

-- the facts before an instruction's moves are the facts that hold on every path, at both points at which its uses are read
abbrev pub AreFactsKnown : FunctionValue → OutputValue → Location → Facts → Type 0
AreFactsKnown f o l F = (position : OperandPos) (p : Place) (v : VirtualRegister) → (facts_for f o l position F p v ≡ true) ↔ HoldsOnPaths f o l position p v
