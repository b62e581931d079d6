-- The function that a `FlatFunction` keeps.
use Rattle.std.specs.Prelude.{map}
use Rattle.regalloc2_function.specs.FunctionValue.{FunctionValue, label_of}
use Rattle.regalloc2_serialize.specs.TableFunction.Table.{sizes_of_table}
use Rattle.regalloc2_serialize.specs.Flat.Columns.Value.{Columns, column_blocks, column_insts}
use Rattle.regalloc2_serialize.specs.declared.flat.columns.FlatFunction.{FlatFunction}

abbrev pub columns_of_flat : {A : Type 0} → FlatFunction A → Columns
columns_of_flat f = record {
  kinds = f.kinds.items;
  sets = f.sets.items;
  operands = f.operands.items.items;
  operand_bounds = f.operands.bounds.items;
  inst_bounds = f.inst_bounds.items;
  preds = f.preds.items.items;
  pred_bounds = f.preds.bounds.items;
  succs = f.succs.items.items;
  succ_bounds = f.succs.bounds.items;
  params = f.params.items.items;
  param_bounds = f.params.bounds.items;
  arguments = f.arguments.items.items;
  argument_bounds = f.arguments.bounds.items;
}

abbrev pub function_of_flat : {A : Type 0} → FlatFunction A → FunctionValue
function_of_flat f = record {
  blocks = column_blocks (columns_of_flat f);
  insts = column_insts (columns_of_flat f);
  entry = f.entry;
  num_vregs = f.num_vregs;
  slot_sizes = sizes_of_table f.int_slot f.float_slot f.vector_slot;
  named_by_last_slot = f.named_by_last_slot;
  labels = map label_of f.labels.items;
  allows_multiple_defs = f.allows_multiple_defs;
}
