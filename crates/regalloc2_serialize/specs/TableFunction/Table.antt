-- The function that a table holds.
use Rattle.std.specs.Prelude.{map}
use Rattle.regalloc2_function.specs.FunctionValue.{FunctionValue, BlockValue, InstValue, SlotSizes, label_of}
use Rattle.regalloc2_serialize.specs.Opcode.{is_branch, is_ret}
use Rattle.regalloc2_serialize.specs.declared.table_function.table.TableBlock.{TableBlock}
use Rattle.regalloc2_serialize.specs.declared.table_function.table.TableInst.{TableInst}
use Rattle.regalloc2_serialize.specs.declared.table_function.table.SlotUnits.{SlotUnits}
use Rattle.regalloc2_serialize.specs.declared.table_function.table.TableFunction.{TableFunction}

abbrev pub inst_of_table : {A : Type 0} → TableInst A → InstValue
inst_of_table i = record { operands = i.operands.items; clobbers = i.clobbers; is_branch = is_branch i.op; is_ret = is_ret i.op }

abbrev pub block_of_table : {A : Type 0} → TableBlock A → BlockValue
block_of_table b = record {
  range = b.range;
  succs = b.succs.items;
  preds = b.preds.items;
  params = b.params.items;
  arguments = map (λ v. v.items) b.arguments.items;
}

abbrev pub function_of_table : {A : Type 0} → TableFunction A → FunctionValue
function_of_table f = record {
  blocks = map block_of_table f.blocks.items;
  insts = map inst_of_table f.insts.items;
  entry = f.entry;
  num_vregs = f.num_vregs;
  slot_sizes = record { int = f.int_slot.units; float = f.float_slot.units; vector = f.vector_slot.units };
  named_by_last_slot = f.named_by_last_slot;
  labels = map label_of f.labels.items;
  allows_multiple_defs = f.allows_multiple_defs;
}

-- sizes of slots
abbrev pub sizes_of_table : SlotUnits → SlotUnits → SlotUnits → SlotSizes
sizes_of_table i f v = record { int = i.units; float = f.units; vector = v.units }
