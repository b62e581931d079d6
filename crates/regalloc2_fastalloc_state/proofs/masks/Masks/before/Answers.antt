-- Each mask gets the bit of one operand more.
use Rattle.std.proofs.Common.{◌∙◌, ap, not}
use Rattle.regalloc2_parts.specs.Picked.{is_late_operand, is_use_operand}
use Rattle.regalloc2_fastalloc_state.proofs.MaskLemmas.{late_by_position, mask_before, use_by_kind}
use Rattle.regalloc2_fastalloc_state.proofs.masks.Masks.before.Goals as goal

pub returns : goal.returns
returns c operands few masks = record {
  late = mask_before is_late_operand c.args.operand operands c.args.self.late c.is_late.result
      (c.is_late.ensures ∙ late_by_position c.args.operand.position) few masks.late;
  uses = mask_before is_use_operand c.args.operand operands c.args.self.uses (not c.is_def.result)
      (ap not c.is_def.ensures ∙ use_by_kind c.args.operand.kind) few masks.uses;
}
