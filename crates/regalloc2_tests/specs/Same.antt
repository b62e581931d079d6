-- The function that lends the same operands for each of its instructions.
use Rattle.std.specs.Prelude.{[], ◌∷◌, false, replicate}
use Rattle.std.proofs.Common.{lit<, arith}
use Rattle.std.proofs.lemmas.List.{length-replicate}
use Rattle.std.proofs.lemmas.List.Elements.{All-nil}
use Rattle.regalloc2_function.specs.FunctionValue.{FunctionValue, IsLimited}
use Rattle.regalloc2_function.specs.SingleUnits.{single_units, IsSlotSize-single_units}
use Rattle.regalloc2_tests.specs.declared.adversary.Same.{Same}

abbrev pub same_function : Same → FunctionValue
same_function f = record {
  blocks = record { range = record { first = 0; end = f.insts }; succs = f.succs.now; preds = []; params = []; arguments = [] } ∷ [];
  insts = replicate f.insts (record { operands = f.operands.now; clobbers = f.clobbers; is_branch = false; is_ret = false });
  entry = 1;
  num_vregs = 1;
  slot_sizes = single_units;
  named_by_last_slot = false;
  labels = [];
  allows_multiple_defs = false;
}

pub limited_same : (f : Same) → IsLimited (same_function f)
limited_same f = record {
  insts = rw length-replicate (omega (arith, f.few));
  blocks = lit< tt;
  vregs = lit< tt;
  slot_sizes = IsSlotSize-single_units;
  labels = All-nil _;
}
