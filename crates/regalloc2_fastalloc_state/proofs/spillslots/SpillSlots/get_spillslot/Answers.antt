use Rattle.std.proofs.Common.{ℕ, ◌≡◌, ◌+◌, ◌<◌, List, length, slice_index_or, slice_set, refl, sym, ap, ◌∙◌, subst, arith}
use Rattle.std.specs.Int.{next_multiple_of}
use Rattle.std.proofs.lemmas.List.{length-set}
use Rattle.regalloc2_names.specs.Register.{class_code}
use Rattle.regalloc2_names.specs.Place.{Place, NoPlace, InSlot}
use Rattle.regalloc2_fastalloc_state.specs.OutOfResources.{SlotsExhausted}
use Rattle.regalloc2_fastalloc_state.specs.StateParts.{SpillSlotsValue, SlotsHaveOneOwner, GetsSpillSlot, slot_end}
use Rattle.regalloc2_fastalloc_state.proofs.SpillSlotUnits.{full_slots, no_slot_yet, owned_more, slot_kept, slot_made}
use Rattle.regalloc2_fastalloc_state.proofs.spillslots.SpillSlots.get_spillslot.Given.{Over}
use Rattle.regalloc2_fastalloc_state.proofs.spillslots.SpillSlots.get_spillslot.Goals as goal

pub returns-then-end-clause-lack : goal.returns-then-end-clause-lack
returns-then-end-clause-lack g c =
    let n : ℕ = c.vreg-number.result in
    let items : List Place = c.self.inside.vreg_spillslots.items in
    let lt : n < length items = (let e = ap (λ (t : SpillSlotsValue). length t.vreg_spillslots) c.self.view_is in
    omega (arith, c.requires, c.vreg-number.ensures.number, e)) in
    let none : slice_index_or items n NoPlace ≡ NoPlace = no_slot_yet items n c.index-had.result.now c.is_some.result lt c.index-had.ensures c.is_some.ensures.1
    c.if-is_some.false in
    subst SlotsExhausted c.self.view_is (full_slots _ c.code.result n c.next_multiple_of-start.result c.self.invariant c.code.ensures.small lt none
    c.next_multiple_of-start.ensures.value (omega (arith, c.if-end.true)))

-- the slots with one more
owned : (g : Over) (c : goal.After-self-2-1 g) → SlotsHaveOneOwner (record {
  vreg_spillslots = slice_set c.self.inside.vreg_spillslots.items c.vreg-number.result c.stack-slot.result;
  count = c.next_multiple_of-start.result + slice_index_or c.self.inside.sizes c.code.result 0;
  num_temp_slots = c.self.inside.num_temp_slots;
  sizes = c.self.inside.sizes;
  by_last = c.self.inside.by_last;
})
owned g c =
    let n : ℕ = c.vreg-number.result in
    let items : List Place = c.self.inside.vreg_spillslots.items in
    let size : ℕ = slice_index_or c.self.inside.sizes c.code.result 0 in
    let lt : n < length items = (let e = ap (λ (t : SpillSlotsValue). length t.vreg_spillslots) c.self.view_is in
    omega (arith, c.requires, c.vreg-number.ensures.number, e)) in
    let none : slice_index_or items n NoPlace ≡ NoPlace = no_slot_yet items n c.index-had.result.now c.is_some.result lt c.index-had.ensures c.is_some.ensures.1
    c.if-is_some.false in
    let P : Place → Type 0 = λ p. SlotsHaveOneOwner
    (record {
      vreg_spillslots = slice_set items n p;
      count = c.next_multiple_of-start.result + size;
      num_temp_slots = c.self.inside.num_temp_slots;
      sizes = c.self.inside.sizes;
      by_last = c.self.inside.by_last;
    }) in
    let made = owned_more _ c.code.result n c.next_multiple_of-start.result c.self.invariant c.code.ensures.small lt none c.next_multiple_of-start.ensures.value
    c.named_unit.result (omega (arith, c.if-end.false)) c.named_unit.ensures.within.0 c.named_unit.ensures.within.1 in
    subst P (sym (c.stack-slot.ensures ∙ ap InSlot c.new.ensures)) made

pub invariant_of-self : goal.invariant_of-self
invariant_of-self g c = owned g c

pub returns-clause-owned : goal.returns-clause-owned
returns-clause-owned g c = owned g c

pub index-had-requires : goal.index-had-requires
index-had-requires g c =
    let e = ap (λ (t : SpillSlotsValue). length t.vreg_spillslots) c.self.view_is in
    omega (arith, c.requires, c.vreg-number.ensures.number, e, c.self.inside.vreg_spillslots.ok.0)

pub offset_bounds-self-inside-code : goal.offset_bounds-self-inside-code
offset_bounds-self-inside-code g c = omega (arith, c.code.ensures.small)

pub bounds-self-inside-code : goal.bounds-self-inside-code
bounds-self-inside-code g c = omega (arith, c.self.invariant.three, c.code.ensures.small)

pub returns-then-is_some : goal.returns-then-is_some
returns-then-is_some g c =
    let e = ap (λ (t : SpillSlotsValue). length t.vreg_spillslots) c.self.view_is in
    record {
      ok = subst (λ (t : SpillSlotsValue). GetsSpillSlot t t c.args.vreg c.index-had.result.now) c.self.view_is
          (slot_kept _ c.args.vreg c.vreg-number.result c.index-had.result.now c.self.invariant c.vreg-number.ensures.number
          (omega (arith, c.requires, c.vreg-number.ensures.number, e)) c.index-had.ensures (c.is_some.ensures.0 c.if-is_some.true));
      full = tt;
      lack = tt;
      sizes = refl;
      vregs = refl;
      num_temp_slots = refl;
      owned = subst SlotsHaveOneOwner c.self.view_is c.self.invariant;
    }

pub named_unit-requires : goal.named_unit-requires
named_unit-requires g c = record {
  size = (c.self.invariant.sizes c.code.result c.code.ensures.small).0;
  few = omega (arith, c.if-end.false);
}

pub index_mut-requires : goal.index_mut-requires
index_mut-requires g c =
    let e = ap (λ (t : SpillSlotsValue). length t.vreg_spillslots) c.self.view_is in
    omega (arith, c.requires, c.vreg-number.ensures.number, e, c.self.inside.vreg_spillslots.ok.0)

pub returns-then-end-clause-ok : goal.returns-then-end-clause-ok
returns-then-end-clause-ok g c = tt

pub returns-then-end-clause-full : goal.returns-then-end-clause-full
returns-then-end-clause-full g c =
    let sizes : List ℕ = c.self.inside.sizes in
    let size : ℕ = slice_index_or sizes c.code.result 0 in
    let e : c.next_multiple_of-start.result + size ≡ slot_end c.args.self.now c.args.vreg.class = ap (λ n. n + size) c.next_multiple_of-start.ensures.value
    ∙ ap (λ i. next_multiple_of c.self.inside.count (slice_index_or sizes i 0) + slice_index_or sizes i 0) (c.code.ensures.code ∙ ap class_code c.class.ensures)
    ∙ ap (λ (t : SpillSlotsValue). slot_end t c.args.vreg.class) c.self.view_is in
    (refl, refl, omega (arith, e, c.if-end.true))

pub returns-then-end-clause-sizes : goal.returns-then-end-clause-sizes
returns-then-end-clause-sizes g c = refl

pub returns-then-end-clause-vregs : goal.returns-then-end-clause-vregs
returns-then-end-clause-vregs g c = refl

pub returns-then-end-clause-num_temp_slots : goal.returns-then-end-clause-num_temp_slots
returns-then-end-clause-num_temp_slots g c = refl

pub returns-then-end-clause-owned : goal.returns-then-end-clause-owned
returns-then-end-clause-owned g c = subst SlotsHaveOneOwner c.self.view_is c.self.invariant

pub returns-clause-ok : goal.returns-clause-ok
returns-clause-ok g c =
    let n : ℕ = c.vreg-number.result in
    let items : List Place = c.self.inside.vreg_spillslots.items in
    let lt : n < length items = (let e = ap (λ (t : SpillSlotsValue). length t.vreg_spillslots) c.self.view_is in
    omega (arith, c.requires, c.vreg-number.ensures.number, e)) in
    let none : slice_index_or items n NoPlace ≡ NoPlace = no_slot_yet items n c.index-had.result.now c.is_some.result lt c.index-had.ensures c.is_some.ensures.1
    c.if-is_some.false in
    let size : ℕ = slice_index_or c.self.inside.sizes c.code.result 0 in
    slot_made _ c.args.self.now c.args.vreg c.code.result n c.next_multiple_of-start.result (c.next_multiple_of-start.result + size) c.named_unit.result
    c.stack-slot.result c.self.view_is c.vreg-number.ensures.number (c.code.ensures.code ∙ ap class_code c.class.ensures) lt none
    c.next_multiple_of-start.ensures.value (ap (λ n. n + size) c.next_multiple_of-start.ensures.value) c.named_unit.ensures.unit c.named_unit.ensures.within.1 (c.stack-slot.ensures ∙ ap InSlot c.new.ensures)

pub returns-clause-full : goal.returns-clause-full
returns-clause-full g c = tt

pub returns-clause-lack : goal.returns-clause-lack
returns-clause-lack g c = tt

pub returns-clause-sizes : goal.returns-clause-sizes
returns-clause-sizes g c = ap (λ (t : SpillSlotsValue). t.sizes) c.self.view_is

pub returns-clause-vregs : goal.returns-clause-vregs
returns-clause-vregs g c =
    length-set c.self.inside.vreg_spillslots.items c.vreg-number.result c.stack-slot.result
    ∙ ap (λ (t : SpillSlotsValue). length t.vreg_spillslots) c.self.view_is

pub returns-clause-num_temp_slots : goal.returns-clause-num_temp_slots
returns-clause-num_temp_slots g c = ap (λ (t : SpillSlotsValue). t.num_temp_slots) c.self.view_is
