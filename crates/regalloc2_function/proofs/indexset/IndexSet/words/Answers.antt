use Rattle.regalloc2_function.proofs.NumberBits.{lists_members}
use Rattle.regalloc2_function.proofs.NumberMaps.{KeysApart-from_distinct}
use Rattle.regalloc2_function.proofs.indexset.IndexSet.words.Goals as goal

pub returns-clause-members : goal.returns-clause-members
returns-clause-members g c =
    let e = c.self.view_is in
    rw (← e) (lists_members c.self.inside.few c.self.inside.many.entries c.as_slice.ensures.apart
    (KeysApart-from_distinct c.self.inside.many.entries c.iter.ensures.unique) c.self.invariant)
