use Rattle.std.proofs.Common.{ℕ, ◌+◌, ◌*◌, ◌≤◌, ap, arith, slice_index_or}
use Rattle.regalloc2_fastalloc_state.proofs.SpillSlotUnits.{temp_slots_within_limit, owned_lent}
use Rattle.regalloc2_fastalloc_state.proofs.spillslots.SpillSlots.add_temp_slots.Goals as goal

pub invariant_of-self : goal.invariant_of-self
invariant_of-self g c =
    let some : 1 ≤ c.args.taken = omega (arith, c.if-taken-eq0.false) in
    let is = ap (λ (n : ℕ). n + c.args.taken * slice_index_or c.self.inside.sizes c.code.result 0) c.next_multiple_of.ensures.value in
    owned_lent _ c.code.result c.self.invariant c.code.ensures.small c.args.taken _ some c.requires.few is
    (let limit = temp_slots_within_limit _ _ c.args.class c.code.result c.args.taken c.self.view_is c.code.ensures.code some c.requires.room in omega (arith, is, limit))

pub returns-clause-owned : goal.returns-clause-owned
returns-clause-owned g c =
    let some : 1 ≤ c.args.taken = omega (arith, c.if-taken-eq0.false) in
    let is = ap (λ (n : ℕ). n + c.args.taken * slice_index_or c.self.inside.sizes c.code.result 0) c.next_multiple_of.ensures.value in
    owned_lent _ c.code.result c.self.invariant c.code.ensures.small c.args.taken _ some c.requires.few is
    (let limit = temp_slots_within_limit _ _ c.args.class c.code.result c.args.taken c.self.view_is c.code.ensures.code some c.requires.room in omega (arith, is, limit))
