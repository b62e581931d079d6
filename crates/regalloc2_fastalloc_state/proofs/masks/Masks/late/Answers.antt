-- The late operands' mask selects the late operands.
use Rattle.regalloc2_parts.specs.Picked.{is_late_operand}
use Rattle.regalloc2_fastalloc_state.proofs.MaskLemmas.{mask_selects}
use Rattle.regalloc2_fastalloc_state.proofs.masks.Masks.late.Goals as goal

pub returns : goal.returns
returns c = mask_selects is_late_operand c.args.self.now.late c.args.operands.now c.requires.masks.late
