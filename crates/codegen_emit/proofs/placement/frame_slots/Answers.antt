use Rattle.codegen_emit.proofs.placement.frame_slots.Goals as goal

pub returns : goal.returns
returns c = c.saturating_sub.ensures
