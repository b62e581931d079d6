use Rattle.std.proofs.Common.{ℕ, ◌≡◌, ◌+◌, ◌*◌, ap, ◌∙◌, subst, arith, slice_index}
use Rattle.std.specs.Int.{next_multiple_of}
use Rattle.regalloc2_names.specs.declared.RegClass.{RegClass}
use Rattle.regalloc2_names.specs.Register.{class_code}
use Rattle.regalloc2_fastalloc_state.specs.StateParts.{SpillSlotsValue, SlotsHaveOneOwner, later_end}
use Rattle.regalloc2_fastalloc_state.proofs.spillslots.SpillSlots.next_temp_slot.Goals as goal

pub returns-clause-owned : goal.returns-clause-owned
returns-clause-owned g c = subst SlotsHaveOneOwner c.self.view_is c.self.invariant

pub returns-then-start-size-clause-owned : goal.returns-then-start-size-clause-owned
returns-then-start-size-clause-owned g c = subst SlotsHaveOneOwner c.self.view_is c.self.invariant

-- where the slot ends
ends : (s t : SpillSlotsValue) (class : RegClass) (k code from : ℕ) → s ≡ t → code ≡ class_code class →
    from ≡ next_multiple_of s.count (slice_index s.sizes code) → from + k * slice_index s.sizes code + slice_index s.sizes code ≡ later_end t class k
ends s t class k code from same is at =
    ap (λ (n : ℕ). n + k * slice_index s.sizes code + slice_index s.sizes code) at
    ∙ ap (λ (n : ℕ). next_multiple_of s.count (slice_index s.sizes n) + k * slice_index s.sizes n + slice_index s.sizes n) is
    ∙ ap (λ (v : SpillSlotsValue). later_end v class k) same

pub returns-clause-room : goal.returns-clause-room
returns-clause-room g c =
    let end = ends _ c.args.self.now c.args.class c.args.before c.code.result c.next_multiple_of.result c.self.view_is c.code.ensures.code
    c.next_multiple_of.ensures.value in
    omega (arith, end, c.if-start-size.false)

pub returns-then-start-size-clause-full : goal.returns-then-start-size-clause-full
returns-then-start-size-clause-full g c =
    let end = ends _ c.args.self.now c.args.class c.args.before c.code.result c.next_multiple_of.result c.self.view_is c.code.ensures.code
    c.next_multiple_of.ensures.value in
    omega (arith, end, c.if-start-size.true)
