use Rattle.std.proofs.Common.{ap, sym, ◌∙◌}
use Rattle.regalloc2_names.specs.Place.{InSlot}
use Rattle.regalloc2_parts.proofs.CallmovesLemmas.CallPlaces.{slot_there, slot_not}
use Rattle.regalloc2_parts.proofs.callmoves.fault.slot_number.Goals as goal

pub returns-in-Some : goal.returns-in-Some
returns-in-Some c = slot_there _ _ c.in-Some.ensures ∙ ap InSlot (sym c.index.ensures)

pub returns-in-None : goal.returns-in-None
returns-in-None c = slot_not _ c.in-None.ensures
