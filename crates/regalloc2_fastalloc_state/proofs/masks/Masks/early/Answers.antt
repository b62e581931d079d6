-- The operands that aren't late, which are the early ones, are selected.
use Rattle.std.proofs.Common.{◌<◌, ◌^◌, rules}
use Rattle.regalloc2_parts.specs.Picked.{is_early_operand}
use Rattle.regalloc2_fastalloc_state.proofs.MaskLemmas.{early_mask, mask_selects}
use Rattle.regalloc2_fastalloc_state.proofs.masks.Masks.early.Goals as goal

pub returns : goal.returns
returns c =
    let fits : c.args.self.now.late < 2 ^ 64 = search rules in
    mask_selects is_early_operand _ c.args.operands.now (early_mask c.args.operands.now c.args.self.now.late c.requires.few fits c.requires.masks.late)
