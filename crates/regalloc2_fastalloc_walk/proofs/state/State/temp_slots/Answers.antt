use Rattle.regalloc2_fastalloc_proofs.proofs.Moves.ParallelMovesOrdered.{are_next}
use Rattle.regalloc2_fastalloc_walk.proofs.state.State.temp_slots.Goals as goal

pub returns : goal.returns
returns g c =
    let a = c.next_temp_slot.ensures in
    let b = c.next_temp_slot-2.ensures in
    are_next c.args.self.now.slots c.args.class c.next_temp_slot.result c.next_temp_slot-2.result a.slot a.room a.full b.slot b.room b.full a.owned
