use Rattle.std.proofs.Common.{refl}
use Rattle.regalloc2_parts.proofs.CallmovesLemmas.CallSchedule.{lends_first}
use Rattle.regalloc2_parts.proofs.callmoves.frame.scratch_pool.Goals as goal

pub slot_at-requires-clause-range : goal.slot_at-requires-clause-range
slot_at-requires-clause-range g c = c.requires.range

pub slot_at-requires-clause-small : goal.slot_at-requires-clause-small
slot_at-requires-clause-small g c = c.requires.small

pub slot_at-requires-2-clause-range : goal.slot_at-requires-2-clause-range
slot_at-requires-2-clause-range g c = c.requires.range

pub slot_at-requires-2-clause-small : goal.slot_at-requires-2-clause-small
slot_at-requires-2-clause-small g c = c.requires.small

pub returns : goal.returns
returns g c = lends_first c.args.frame.now _ c.register_at.ensures c.register_at-2.ensures c.slot_at.ensures c.slot_at-2.ensures refl refl
