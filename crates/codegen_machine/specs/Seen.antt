-- The allocator's view of a procedure: its function.
use Rattle.std.specs.Prelude.{ℕ, false, map, [], List}
use Rattle.std.proofs.Common.{arith}
use Rattle.std.proofs.lemmas.List.{length-map}
use Rattle.std.proofs.lemmas.List.Elements.{All-nil}
use Rattle.regalloc2_function.specs.FunctionValue.{FunctionValue, BlockValue, InstValue, IsLimited}
use Rattle.regalloc2_function.specs.SingleUnits.{single_units, IsSlotSize-single_units}
use Rattle.codegen_operation.specs.Operands.{operands_of, is_jump, is_return}
use Rattle.codegen_machine.specs.Successors.{operations_of}
use Rattle.codegen_operation.specs.declared.operation.Operation.{Operation}
use Rattle.codegen_operation.specs.declared.line.Line.{Line}
use Rattle.codegen_machine.specs.declared.procedure.Part.{Part}
use Rattle.codegen_machine.specs.declared.procedure.Procedure.{Procedure}

abbrev pub inst_of_line : Line → InstValue
inst_of_line l = record {
  operands = operands_of l.operation;
  clobbers = l.clobbers;
  is_branch = is_jump l.operation;
  is_ret = is_return l.operation;
}

abbrev pub block_of_part : Part → BlockValue
block_of_part b = record {
  range = b.range;
  succs = b.succs.items;
  preds = b.preds.items;
  params = b.params.items;
  arguments = map (λ v. v.items) b.arguments.items;
}

abbrev pub function_of_procedure : Procedure → FunctionValue
function_of_procedure p = record {
  blocks = map block_of_part p.parts.items;
  insts = map inst_of_line p.lines.items;
  entry = 0;
  num_vregs = p.num_vregs;
  slot_sizes = single_units;
  named_by_last_slot = false;
  labels = [];
  allows_multiple_defs = false;
}

-- the operations of a procedure, by number, and the size of its memory
pub record Operations : Type 0 where
  pub items : List Operation
  pub memory_size : ℕ

abbrev pub operations : Procedure → Operations
operations p = record { items = operations_of p.lines.items; memory_size = p.memory_size }

-- it is within the limits of each function
pub limited_procedure : (p : Procedure) → IsLimited (function_of_procedure p)
limited_procedure p = record {
  insts = rw length-map (omega (arith, p.few_lines));
  blocks = rw length-map (omega (arith, p.few_parts));
  vregs = p.few_vregs;
  slot_sizes = IsSlotSize-single_units;
  labels = All-nil _;
}
