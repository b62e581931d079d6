-- Columns keep the limits of a function.
use Rattle.std.proofs.Common.{arith, ◌<◌}
use Rattle.std.proofs.lemmas.List.FromFn.{length-map-range_with_len}
use Rattle.std.proofs.lemmas.List.Elements.{All-map}
use Rattle.regalloc2_function.specs.FunctionValue.{IsLimited, IsSlotSize, slot_size, label_of}
use Rattle.regalloc2_names.specs.declared.RegClass.TheVariants.{Int, Float, Vector}
use Rattle.regalloc2_serialize.specs.TableFunction.TableLimits.{size_of_table_units}
use Rattle.regalloc2_serialize.specs.Flat.Columns.Kept.{function_of_flat}
use Rattle.regalloc2_serialize.specs.declared.flat.columns.FlatFunction.{FlatFunction}

pub limited_flat : {A : Type 0} (f : FlatFunction A) → IsLimited (function_of_flat f)
limited_flat f = record {
  insts = rw length-map-range_with_len (omega (arith, f.few_insts, f.kinds.ok.0));
  blocks = rw length-map-range_with_len (omega (arith, f.few_blocks, f.inst_bounds.ok.0));
  vregs = f.few_vregs;
  slot_sizes = λ c. elim c as (λ k. IsSlotSize (slot_size (function_of_flat f).slot_sizes k))
      [ Int ↦ size_of_table_units f.int_slot | Float ↦ size_of_table_units f.float_slot | Vector ↦ size_of_table_units f.vector_slot ];
  labels = All-map (λ l. l.vreg.number < f.num_vregs) label_of f.labels.items f.labels_below;
}
