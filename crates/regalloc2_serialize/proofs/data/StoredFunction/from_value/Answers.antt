use Rattle.regalloc2_serialize.proofs.EncodedLists.{plain-read, refused, not-function}
use Rattle.regalloc2_serialize.proofs.data.StoredFunction.from_value.Goals as goal

pub returns-clause-fields : goal.returns-clause-fields
returns-clause-fields g c =
    let lists = c.in_ok-lists.ensures.ok in
    let settings = c.in_ok-settings.ensures.ok in
    record {
      machine_env = c.in_ok-machine_env.ensures.ok;
      entry_block = settings.entry_block;
      insts = c.in_ok-insts.ensures.ok;
      blocks = lists.blocks;
      block_preds = lists.preds;
      block_succs = lists.succs;
      block_params_in = lists.params_in;
      block_params_out = lists.params_out;
      num_vregs = settings.num_vregs;
      debug_value_labels = plain-read _ c.in_ok-debug_value_labels.debug_value_labels.items c.in_ok-debug_value_labels.ensures.ok;
      spillslot_size = plain-read _ c.in_ok-spillslot_size.spillslot_size.items c.in_ok-spillslot_size.ensures.ok;
      multi_spillslot_named_by_last_slot = settings.by_last_slot;
      allow_multiple_vreg_defs = settings.multiple_defs;
    }

pub returns-in_err-settings : goal.returns-in_err-settings
returns-in_err-settings g c = not-function _ c.from_residual.result _ c.from_residual.ensures.1 (λ has. record {
  entry_block = has.entry_block;
  num_vregs = has.num_vregs;
  by_last_slot = has.multi_spillslot_named_by_last_slot;
  multiple_defs = has.allow_multiple_vreg_defs;
}) c.in_err-settings.ensures.refused

pub returns-in_err-lists : goal.returns-in_err-lists
returns-in_err-lists g c = not-function _ c.from_residual-in_err-lists.result _ c.from_residual-in_err-lists.ensures.1 (λ has. record {
  blocks = has.blocks;
  preds = has.block_preds;
  succs = has.block_succs;
  params_in = has.block_params_in;
  params_out = has.block_params_out;
}) c.in_err-lists.ensures.refused

pub returns-in_err-spillslot_size : goal.returns-in_err-spillslot_size
returns-in_err-spillslot_size g c = not-function _ c.from_residual-in_err-spillslot_size.result _ c.from_residual-in_err-spillslot_size.ensures.1 (λ has. has.spillslot_size)
    (refused _ _ (λ some. some) c.in_err-spillslot_size.ensures.shape c.in_err-spillslot_size.ensures.faults)

pub returns-in_err-debug_value_labels : goal.returns-in_err-debug_value_labels
returns-in_err-debug_value_labels g c = not-function _ c.from_residual-in_err-debug_value_labels.result _ c.from_residual-in_err-debug_value_labels.ensures.1 (λ has. has.debug_value_labels)
    (refused _ _ (λ some. some) c.in_err-debug_value_labels.ensures.shape c.in_err-debug_value_labels.ensures.faults)

pub returns-in_err-insts : goal.returns-in_err-insts
returns-in_err-insts g c = not-function _ c.from_residual-in_err-insts.result _ c.from_residual-in_err-insts.ensures.1 (λ has. has.insts)
    (refused _ _ (λ some. some) c.in_err-insts.ensures.shape c.in_err-insts.ensures.faults)

pub returns-in_err-machine_env : goal.returns-in_err-machine_env
returns-in_err-machine_env g c = not-function _ c.from_residual-in_err-machine_env.result _ c.from_residual-in_err-machine_env.ensures.1 (λ has. has.machine_env)
    (refused _ _ (λ some. some) c.in_err-machine_env.ensures.shape c.in_err-machine_env.ensures.faults)
