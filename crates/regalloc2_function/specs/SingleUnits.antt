-- Slots of one unit for each class: the sizes, and that they are sound, for an implementation's `limited`.
use Rattle.std.proofs.Common.{lit≤, refl}
use Rattle.regalloc2_names.specs.declared.RegClass.{RegClass}
use Rattle.regalloc2_names.specs.declared.RegClass.TheVariants.{Int, Float, Vector}
use Rattle.regalloc2_function.specs.FunctionValue.{SlotSizes, IsSlotSize, slot_size}

abbrev pub single_units : SlotSizes
single_units = record { int = 1; float = 1; vector = 1 }

pub IsSlotSize-one : IsSlotSize 1
unfolding lib.Count.ones
IsSlotSize-one = record { positive = lit≤ tt; at_most = lit≤ tt; power_of_two = refl }

pub IsSlotSize-single_units : (class : RegClass) → IsSlotSize (slot_size single_units class)
IsSlotSize-single_units Int = IsSlotSize-one
IsSlotSize-single_units Float = IsSlotSize-one
IsSlotSize-single_units Vector = IsSlotSize-one
