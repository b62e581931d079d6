use Rattle.serde_json.specs.View.{view}
use Rattle.regalloc2_serialize.specs.JsonShape.{AreSettingsAt}
use Rattle.regalloc2_serialize.proofs.EncodedLists.{refused, not-part}
use Rattle.regalloc2_serialize.proofs.json_outputs.settings_from.Goals as goal

pub returns-clause-ok : goal.returns-clause-ok
returns-clause-ok g c = record {
  entry_block = c.in_ok-entry_block.ensures.ok;
  num_vregs = c.in_ok-num_vregs.ensures.ok;
  by_last_slot = c.in_ok-by_last_slot.ensures.ok;
  multiple_defs = c.in_ok-multiple_defs.ensures.ok;
}

pub returns-in_err-entry_block : goal.returns-in_err-entry_block
returns-in_err-entry_block g c =
    not-part (AreSettingsAt (view c.args.value.now)) c.from_residual.result _ c.from_residual.ensures.1 (refused _ _ (λ has. has.entry_block) c.in_err-entry_block.ensures.shape c.in_err-entry_block.ensures.faults)

pub returns-in_err-num_vregs : goal.returns-in_err-num_vregs
returns-in_err-num_vregs g c =
    not-part (AreSettingsAt (view c.args.value.now)) c.from_residual-in_err-num_vregs.result _ c.from_residual-in_err-num_vregs.ensures.1 (refused _ _ (λ has. has.num_vregs) c.in_err-num_vregs.ensures.shape c.in_err-num_vregs.ensures.faults)

pub returns-in_err-by_last_slot : goal.returns-in_err-by_last_slot
returns-in_err-by_last_slot g c =
    not-part (AreSettingsAt (view c.args.value.now)) c.from_residual-in_err-by_last_slot.result _ c.from_residual-in_err-by_last_slot.ensures.1 (refused _ _ (λ has. has.by_last_slot) c.in_err-by_last_slot.ensures.shape c.in_err-by_last_slot.ensures.faults)

pub returns-in_err-multiple_defs : goal.returns-in_err-multiple_defs
returns-in_err-multiple_defs g c =
    not-part (AreSettingsAt (view c.args.value.now)) c.from_residual-in_err-multiple_defs.result _ c.from_residual-in_err-multiple_defs.ensures.1 (refused _ _ (λ has. has.multiple_defs) c.in_err-multiple_defs.ensures.shape c.in_err-multiple_defs.ensures.faults)
