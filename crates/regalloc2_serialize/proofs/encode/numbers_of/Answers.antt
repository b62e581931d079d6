use Rattle.std.proofs.Common.{◌≡◌, ◌∙◌, refl, sym, subst, map, length, ap}
use Rattle.std.proofs.lemmas.List.{length-map}
use Rattle.std.proofs.lemmas.Slice.Zip.{AllZip-long}
use Rattle.std.specs.List.{AllZip, range_with_len}
use Rattle.regalloc2_function.specs.FunctionValue.{label_of}
use Rattle.regalloc2_serialize.specs.Decoded.{NamesInst, NamesFunction, stored_label, stored_block}
use Rattle.regalloc2_serialize.specs.Encoded.{AreListsOf, HasPartsOf}
use Rattle.regalloc2_serialize.specs.TableFunction.Table.{inst_of_table, block_of_table}
use Rattle.regalloc2_serialize.specs.Tables.{function_of_serializable}
use Rattle.regalloc2_serialize.proofs.Blocks.{read-blocks}
use Rattle.regalloc2_serialize.specs.declared.data.StoredFunction.{StoredFunction}
use Rattle.regalloc2_serialize.proofs.encode.numbers_of.Given.{Over}
use Rattle.regalloc2_serialize.proofs.encode.numbers_of.Goals as goal

abbrev numbers : (g : Over) (c : goal.After-raw_u32 g) → StoredFunction g.row.A.Denot
numbers g c = record {
  machine_env = c.in_ok-machine_env.machine_env;
  entry_block = c.raw_u32.result;
  insts = c.in_ok-insts.insts;
  blocks = c.in_ok-lists.lists.blocks;
  block_preds = c.in_ok-lists.lists.preds;
  block_succs = c.in_ok-lists.lists.succs;
  block_params_in = c.in_ok-lists.lists.params_in;
  block_params_out = c.in_ok-lists.lists.params_out;
  num_vregs = c.args.named.now.function.num_vregs;
  debug_value_labels = c.in_ok-debug_value_labels.debug_value_labels;
  spillslot_size = c.in_ok-spillslot_size.spillslot_size;
  multi_spillslot_named_by_last_slot = c.args.named.now.function.named_by_last_slot;
  allow_multiple_vreg_defs = c.args.named.now.function.allows_multiple_defs;
}

function : (g : Over) (c : goal.After-raw_u32 g) → NamesFunction (numbers g c) (function_of_serializable c.args.named.now)
function g c = record {
  blocks = subst (λ xs. map block_of_table xs ≡ map (stored_block (numbers g c)) (range_with_len 0 (length c.in_ok-lists.lists.blocks.items)))
      c.as_slice-2.ensures.value
      (read-blocks (numbers g c) block_of_table c.as_slice-2.result.now c.in_ok-lists.ensures.ranges c.in_ok-lists.ensures.succs
      c.in_ok-lists.ensures.preds c.in_ok-lists.ensures.params c.in_ok-lists.ensures.arguments);
  insts = subst (λ xs. AllZip (λ x i. NamesInst x i) c.in_ok-insts.insts.items (map inst_of_table xs)) c.as_slice-3.ensures.value
      c.in_ok-insts.ensures.insts;
  entry = sym c.raw_u32.ensures;
  num_vregs = refl;
  slot_sizes = sym c.in_ok-spillslot_size.ensures.sizes;
  named_by_last_slot = refl;
  labels = sym (subst (λ ls. map stored_label c.in_ok-debug_value_labels.debug_value_labels.items ≡ map label_of ls) c.as_slice.ensures.value
      c.in_ok-debug_value_labels.ensures.labels);
  allows_multiple_defs = refl;
}

parts : (g : Over) (c : goal.After-raw_u32 g) → HasPartsOf (numbers g c) c.args.named.now
parts g c = record {
  lists = subst (AreListsOf (numbers g c)) c.as_slice-2.ensures.value (record {
    ranges = c.in_ok-lists.ensures.ranges;
    succs = c.in_ok-lists.ensures.succs;
    preds = c.in_ok-lists.ensures.preds;
    params = c.in_ok-lists.ensures.params;
    arguments = c.in_ok-lists.ensures.arguments;
  });
  insts = sym (AllZip-long (λ x i. NamesInst x i) c.in_ok-insts.insts.items (map inst_of_table c.as_slice-3.result.now) c.in_ok-insts.ensures.insts)
      ∙ length-map c.as_slice-3.result.now inst_of_table ∙ ap length c.as_slice-3.ensures.value;
  entry = c.raw_u32.ensures;
  num_vregs = refl;
  labels = subst (λ ls. map stored_label c.in_ok-debug_value_labels.debug_value_labels.items ≡ map label_of ls) c.as_slice.ensures.value
      c.in_ok-debug_value_labels.ensures.labels;
  classes = c.in_ok-machine_env.ensures.three;
  names = record {
    machine = c.in_ok-machine_env.ensures.names;
    insts = c.in_ok-insts.ensures.names;
    vregs = record {
      params = c.in_ok-lists.ensures.param_names;
      arguments = c.in_ok-lists.ensures.argument_names;
      labels = c.in_ok-debug_value_labels.ensures.names;
    };
  };
  sizes = c.in_ok-spillslot_size.ensures.three;
  slot_sizes = c.in_ok-spillslot_size.ensures.limits;
}

pub returns : goal.returns
returns g c = record { function = function g c; machine = c.in_ok-machine_env.ensures.machine; parts = parts g c }
