-- The uses' mask selects the uses.
use Rattle.regalloc2_parts.specs.Picked.{is_use_operand}
use Rattle.regalloc2_fastalloc_state.proofs.MaskLemmas.{mask_selects}
use Rattle.regalloc2_fastalloc_state.proofs.masks.Masks.uses.Goals as goal

pub returns : goal.returns
returns c = mask_selects is_use_operand c.args.self.now.uses c.args.operands.now c.requires.masks.uses
