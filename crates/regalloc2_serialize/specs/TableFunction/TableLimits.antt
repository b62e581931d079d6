-- A table keeps the limits of a function.
use Rattle.std.proofs.Common.{arith, ◌<◌}
use Rattle.std.proofs.lemmas.List.{length-map}
use Rattle.std.proofs.lemmas.List.Elements.{All-map}
use Rattle.regalloc2_function.specs.FunctionValue.{IsLimited, IsSlotSize, slot_size, label_of}
use Rattle.regalloc2_names.specs.declared.RegClass.TheVariants.{Int, Float, Vector}
use Rattle.regalloc2_serialize.specs.TableFunction.Table.{function_of_table}
use Rattle.regalloc2_serialize.specs.declared.table_function.table.SlotUnits.{SlotUnits}
use Rattle.regalloc2_serialize.specs.declared.table_function.table.TableFunction.{TableFunction}

pub size_of_table_units : (s : SlotUnits) → IsSlotSize s.units
size_of_table_units s = record { positive = s.positive; at_most = s.at_most; power_of_two = s.power_of_two }

pub limited_table : {A : Type 0} (f : TableFunction A) → IsLimited (function_of_table f)
limited_table f = record {
  insts = rw length-map (omega (arith, f.few_insts));
  blocks = rw length-map (omega (arith, f.few_blocks));
  vregs = f.few_vregs;
  slot_sizes = λ c. elim c as (λ k. IsSlotSize (slot_size (function_of_table f).slot_sizes k))
      [ Int ↦ size_of_table_units f.int_slot | Float ↦ size_of_table_units f.float_slot | Vector ↦ size_of_table_units f.vector_slot ];
  labels = All-map (λ l. l.vreg.number < f.num_vregs) label_of f.labels.items f.labels_below;
}
