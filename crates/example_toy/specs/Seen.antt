-- Which function a program is to the allocator.
use Rattle.std.specs.Prelude.{Bool, true, false, map, []}
use Rattle.std.proofs.Common.{arith}
use Rattle.std.proofs.lemmas.List.{length-map}
use Rattle.std.proofs.lemmas.List.Elements.{All-nil}
use Rattle.regalloc2.specs.FunctionValue.{FunctionValue, BlockValue, InstValue, IsLimited}
use Rattle.regalloc2.specs.SingleUnits.{single_units, IsSlotSize-single_units}
use Rattle.example_toy.specs.declared.code.Kind.{Kind}
use Rattle.example_toy.specs.declared.code.Kind.TheVariants.{Argument, Number, Add, Sub, Jump, Fork, Return}
use Rattle.example_toy.specs.declared.code.Line.{Line}
use Rattle.example_toy.specs.declared.code.Part.{Part}
use Rattle.example_toy.specs.declared.code.Code.{Code}

-- the kinds that go on to a successor
abbrev pub is_jump_kind : Kind → Bool
is_jump_kind Argument = false
is_jump_kind (Number n) = false
is_jump_kind Add = false
is_jump_kind Sub = false
is_jump_kind Jump = true
is_jump_kind Fork = true
is_jump_kind Return = false

-- the kind that returns
abbrev pub is_return_kind : Kind → Bool
is_return_kind Argument = false
is_return_kind (Number n) = false
is_return_kind Add = false
is_return_kind Sub = false
is_return_kind Jump = false
is_return_kind Fork = false
is_return_kind Return = true

abbrev pub inst_of : Line → InstValue
inst_of l = record { operands = l.operands.items; clobbers = l.clobbers; is_branch = is_jump_kind l.kind; is_ret = is_return_kind l.kind }

abbrev pub block_of : Part → BlockValue
block_of b = record { range = b.range; succs = b.succs.items; preds = b.preds.items; params = b.params.items; arguments = map (λ v. v.items) b.arguments.items }

abbrev pub function_of : Code → FunctionValue
function_of c = record {
  blocks = map block_of c.parts.items;
  insts = map inst_of c.lines.items;
  entry = 0;
  num_vregs = c.num_vregs;
  slot_sizes = single_units;
  named_by_last_slot = false;
  labels = [];
  allows_multiple_defs = false;
}

-- it keeps the limits of each function
pub limited_code : (c : Code) → IsLimited (function_of c)
limited_code c = record {
  insts = rw length-map (omega (arith, c.few_lines));
  blocks = rw length-map (omega (arith, c.few_parts));
  vregs = c.few_vregs;
  slot_sizes = IsSlotSize-single_units;
  labels = All-nil _;
}
